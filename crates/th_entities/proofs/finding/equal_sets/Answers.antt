use Rattle.std.proofs.Common.{◌∙◌, sym}
use Rattle.th_entities.proofs.PruneLaws.{prune2}
use Rattle.th_entities.proofs.finding.equal_sets.Goals as goal

pub returns-clause-none : goal.returns-clause-none
returns-clause-none c = λ x. prune2 c.args.problem.now c.args.m.now x c.args.s c.args.z (sym c.is_head_out.ensures ∙ c.if-is_head_out.false)
