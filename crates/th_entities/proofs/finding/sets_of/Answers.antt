use Rattle.std.proofs.Common.{◌∙◌, sym}
use Rattle.th_entities.proofs.PruneLaws.{prune2s}
use Rattle.th_entities.proofs.finding.sets_of.Goals as goal

pub returns-clause-none : goal.returns-clause-none
returns-clause-none c = λ z x. prune2s c.args.problem.now c.args.m.now x c.args.s z (sym c.is_stored.ensures ∙ c.if-is_stored.false)
