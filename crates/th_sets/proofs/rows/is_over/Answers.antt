use Rattle.std.proofs.Common.{◌≡◌, ◌∙◌, subst}
use Rattle.sc_terms.specs.Tables.{tree}
use Rattle.sc_terms.specs.TreeSorts.{tree_sort}
use Rattle.th_sets.specs.Rows.{is_set_over}
use Rattle.th_sets.proofs.RowLaws.{set_over}
use Rattle.th_sets.proofs.rows.is_over.Goals as goal

pub returns : goal.returns
returns c = subst (λ xs. c.is_set_of.result ≡ is_set_over (tree_sort (tree xs c.args.x)) (tree xs c.args.set)) c.terms-terms.ensures (c.is_set_of.ensures ∙ set_over _ _ _ _ _ c.node.ensures.stands c.sort.ensures)
