use Rattle.std.proofs.Common.{◌∙◌, sym}
use Rattle.th_entities.proofs.PruneLaws.{prune7}
use Rattle.th_entities.proofs.finding.declared_of.Goals as goal

pub returns-clause-none : goal.returns-clause-none
returns-clause-none c = λ x. prune7 c.args.problem.now c.args.m.now c.args.s x (sym c.is_said.ensures ∙ c.if-is_said.false)
