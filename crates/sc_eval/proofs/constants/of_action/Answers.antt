use Rattle.std.proofs.Common.{sym, subst}
use Rattle.std.specs.List.{AllByRecursion}
use Rattle.std.proofs.lemmas.List.Elements.{recursion_from_All}
use Rattle.sc_ast.specs.Literals.{action_uids}
use Rattle.sc_ast.specs.declared.scope.ActionConstraint.{ActionConstraint}
use Rattle.sc_values.specs.Proper.{IsUidText}
use Rattle.sc_eval.specs.Written.{HasTextUid}
use Rattle.sc_eval.proofs.ConditionLaws.{uids_of}
use Rattle.sc_eval.proofs.constants.of_action.Goals as goal

pub returns-in-InAny : goal.returns-in-InAny
returns-in-InAny c =
    subst (λ (x : ActionConstraint). AllByRecursion IsUidText (action_uids x)) (sym c.in-InAny.is)
    (uids_of _ (recursion_from_All HasTextUid _ c.of_entities.ensures))
