use Rattle.std.proofs.Common.{rules, ◌≤◌, ◌∙◌, length}
use Rattle.std.proofs.lemmas.List.{take_all}
use Rattle.sc_rule_instances.proofs.PartLaws.{number_taken}
use Rattle.sc_model_worlds.proofs.FoldLaws.{all_listed}
use Rattle.sc_model_worlds.proofs.listed.closed_of.Goals as goal

pub loop-place-preserved : goal.loop-place-preserved
loop-place-preserved c =
    c.in_ok-push.ensures.ok ∙ number_taken c.args.problem.now.closed c.loop-place.numbers c.loop-place.place c.closed_at.result c.loop-place.invariant c.closed_at.ensures.number

pub returns-clause-value : goal.returns-clause-value
returns-clause-value c =
    let done : length c.args.problem.now.closed ≤ c.loop-place.place = search rules in
    c.loop-place.invariant ∙ take_all c.loop-place.place c.args.problem.now.closed done

pub returns-clause-listed : goal.returns-clause-listed
returns-clause-listed c =
    let done : length c.args.problem.now.closed ≤ c.loop-place.place = search rules in
    all_listed c.args.problem.now c.loop-place.numbers c.laws.ensures (c.loop-place.invariant ∙ take_all c.loop-place.place c.args.problem.now.closed done)
