use Rattle.std.proofs.Common.{◌∙◌}
use Rattle.sc_rule_instances.proofs.PartLaws.{number_taken}
use Rattle.sc_model_names.proofs.numbers.closed_numbers.Goals as goal

pub loop-place-preserved : goal.loop-place-preserved
loop-place-preserved c =
    c.in_ok-push.ensures.ok ∙ number_taken c.args.problem.now.closed c.loop-place.numbers c.loop-place.place c.closed_at.result c.loop-place.invariant c.closed_at.ensures.number
