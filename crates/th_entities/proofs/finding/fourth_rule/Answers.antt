use Rattle.std.proofs.Common.{ℕ, rules}
use Rattle.sc_rule_instances.specs.declared.rule.EntityRule.TheVariants.{En4}
use Rattle.th_entities.specs.Free.{IsFree, IsOwnFree}
use Rattle.th_entities.proofs.LeftLaws.{left_less, left_none}
use Rattle.th_entities.proofs.ListedLaws.{own_free}
use Rattle.th_entities.proofs.finding.fourth_rule.Goals as goal

pub loop-next-init : goal.loop-next-init
loop-next-init c = own_free c.args.problem.now c.args.m.now c.args.known.now c.requires c.laws.ensures

pub loop-next-preserved : goal.loop-next-preserved
loop-next-preserved c =
    left_less (IsOwnFree c.args.problem.now c.args.m.now) ((e : ℕ) → IsFree c.args.problem.now c.args.m.now (En4 e)) c.loop-next.rest.now c.in-Some.later.now c.in-Some.next.now (search rules) c.in_default-own_ancestor.ensures.none c.loop-next.invariant

pub returns-clause-none : goal.returns-clause-none
returns-clause-none c = left_none (IsOwnFree c.args.problem.now c.args.m.now) ((e : ℕ) → IsFree c.args.problem.now c.args.m.now (En4 e)) c.loop-next.rest.now (search rules) c.loop-next.invariant
