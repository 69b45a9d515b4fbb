use Rattle.std.proofs.Common.{map, sym, subst}
use Rattle.std.proofs.lemmas.Result.{IfOk-weaker}
use Rattle.sc_lists.specs.Members.{Has}
use Rattle.sc_terms.specs.Tables.{tree}
use Rattle.sc_smtlib_lines.specs.Depths.{depth_cmp}
use Rattle.sc_smtlib_lines.specs.Subterms.{AreJust, datatypes_of}
use Rattle.sc_smtlib_lines.proofs.DatatypeLaws.{just_sorts}
use Rattle.sc_smtlib_lines.proofs.datatypes.datatypes.Goals as goal

pub returns : goal.returns
returns c =
    IfOk-weaker c.sorts_of.result _ _
    (λ sorts e. subst (AreJust depth_cmp (Has (datatypes_of (map (tree c.args.terms.now) c.args.numbers.now)))) (sym e)
    (just_sorts _ _ c.in_ok-layers.ensures.layered c.in_ok-layers.ensures.gains))
    c.sorts_of.ensures
