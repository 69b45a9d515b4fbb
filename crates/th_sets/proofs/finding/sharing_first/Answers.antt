use Rattle.std.proofs.Common.{ℕ, arith}
use Rattle.sc_rule_instances.specs.declared.rule.SetRule.TheVariants.{Se10}
use Rattle.th_sets.proofs.FreeLaws.{none_standing, one_standing, all_standing}
use Rattle.th_sets.proofs.finding.sharing_first.Goals as goal

pub loop-index-init : goal.loop-index-init
loop-index-init c = none_standing c.args.problem.now c.args.m.now (λ (i : ℕ). Se10 c.args.s c.args.t i)

pub loop-index-preserved : goal.loop-index-preserved
loop-index-preserved c = one_standing c.args.problem.now c.args.m.now (λ (i : ℕ). Se10 c.args.s c.args.t i) _ c.in_default.ensures.none c.loop-index.invariant

pub returns-clause-none : goal.returns-clause-none
returns-clause-none c = all_standing c.args.problem.now c.args.m.now (λ (i : ℕ). Se10 c.args.s c.args.t i) _ _ (omega (arith, c.loop-index-test.false)) c.loop-index.invariant
