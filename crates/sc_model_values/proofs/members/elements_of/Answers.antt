use Rattle.std.proofs.Common.{◌<◌, length, sym, subst}
use Rattle.std.specs.List.{AllByRecursion}
use Rattle.std.proofs.lemmas.Result.{IfOk-weaker}
use Rattle.sc_terms.specs.Tables.{tree}
use Rattle.sc_model_values.proofs.AssignedLaws.{parts_below, standing_elements, assigned_elements}
use Rattle.sc_model_values.proofs.members.elements_of.Goals as goal

pub returns-in-Some-clause-value : goal.returns-in-Some-clause-value
returns-in-Some-clause-value c =
    IfOk-weaker c.part_numbers.result _ _ (λ ys h names. standing_elements c.args.problem.now c.args.m.now names (tree c.args.problem.now.nodes c.args.term) c.in-Some.parts.now ys c.in-Some.ensures h) c.part_numbers.ensures

pub returns-in-Some-clause-within : goal.returns-in-Some-clause-within
returns-in-Some-clause-within c =
    IfOk-weaker c.part_numbers.result _ _
    (λ ys h. subst (AllByRecursion (λ y. y < length c.args.problem.now.nodes)) (sym h) (parts_below (length c.args.problem.now.nodes) c.in-Some.parts.now c.in-Some.ensures.2)) c.part_numbers.ensures

pub returns-in-None-clause-value : goal.returns-in-None-clause-value
returns-in-None-clause-value c =
    IfOk-weaker c.assigned_of.result _ _ (λ ys h names. assigned_elements c.args.problem.now c.args.m.now names (tree c.args.problem.now.nodes c.args.term) ys c.in-None.ensures (h names)) c.assigned_of.ensures.value
