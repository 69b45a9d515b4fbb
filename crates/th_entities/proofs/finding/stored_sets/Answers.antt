use Rattle.std.proofs.Common.{◌∙◌, sym}
use Rattle.th_entities.proofs.PruneLaws.{prune2_second}
use Rattle.th_entities.proofs.finding.stored_sets.Goals as goal

pub returns-clause-none : goal.returns-clause-none
returns-clause-none c = λ x. prune2_second c.args.problem.now c.args.m.now x c.args.s c.args.z (sym c.is_stored.ensures ∙ c.if-is_stored.false)
