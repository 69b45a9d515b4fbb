use Rattle.std.proofs.Common.{◌≡◌, ◌∙◌, List, Some, sym, subst}
use Rattle.sc_sorts.specs.declared.node.Node.{Node}
use Rattle.sc_terms.specs.Folds.{literal_of}
use Rattle.sc_terms.specs.Tables.{tree}
use Rattle.th_entities_instances.proofs.EntityLaws.{entity_written}
use Rattle.th_entities_instances.proofs.declared.entity_equal.Goals as goal

pub returns-in-Some : goal.returns-in-Some
returns-in-Some c =
    c.literal_literal.ensures ∙ entity_written c.problem_laws.ensures.terms c.args.problem.now c.laws.ensures (tree c.args.problem.now.nodes c.args.x) c.in-Some.literal.now c.args.uid.now (subst (λ (xs : List Node). literal_of (tree xs c.args.x) ≡ Some c.in-Some.literal.now) c.terms.ensures (sym c.in-Some.ensures))
