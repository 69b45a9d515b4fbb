use Rattle.std.proofs.Common.{ℕ, arith}
use Rattle.sc_rule_instances.specs.declared.rule.SetRule.TheVariants.{Se3}
use Rattle.th_sets.proofs.FreeLaws.{none_standing, one_standing, standing_all}
use Rattle.th_sets.proofs.finding.standing.Goals as goal

pub loop-index-init : goal.loop-index-init
loop-index-init c = none_standing c.args.problem.now c.args.m.now (λ (i : ℕ). Se3 c.args.x c.args.set i)

pub loop-index-preserved : goal.loop-index-preserved
loop-index-preserved c = one_standing c.args.problem.now c.args.m.now (λ (i : ℕ). Se3 c.args.x c.args.set i) _ c.in_default.ensures.none c.loop-index.invariant

pub returns-clause-none : goal.returns-clause-none
returns-clause-none c = standing_all c.args.problem.now c.args.m.now c.args.x c.args.set _ (omega (arith, c.member_count-index-end.ensures, c.loop-index-test.false)) c.loop-index.invariant
