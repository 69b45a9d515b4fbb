use Rattle.std.proofs.Common.{arith}
use Rattle.th_equal.proofs.FreeLaws.{fields_none, fields_more, fields_all}
use Rattle.th_equal.proofs.finding.at_fields.Goals as goal

pub loop-field-init : goal.loop-field-init
loop-field-init c = fields_none c.args.problem.now c.args.m.now c.args.r c.args.s

pub loop-field-preserved : goal.loop-field-preserved
loop-field-preserved c = fields_more c.args.problem.now c.args.m.now c.args.r c.args.s _ c.in_default.ensures.none c.loop-field.invariant

pub returns-clause-none : goal.returns-clause-none
returns-clause-none c = fields_all c.args.problem.now c.args.m.now c.args.r c.args.s _ c.args.count (omega (arith, c.loop-field-test.false)) c.loop-field.invariant
