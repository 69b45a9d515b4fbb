use Rattle.std.proofs.Common.{ℕ, rules}
use Rattle.sc_rule_instances.specs.declared.rule.EntityRule.TheVariants.{En2}
use Rattle.th_entities.specs.Free.{IsFree, IsMovedFree}
use Rattle.th_entities.proofs.LeftLaws.{left_less, left_none}
use Rattle.th_entities.proofs.ListedLaws.{moved_free}
use Rattle.th_entities.proofs.finding.moved_members.Goals as goal

pub loop-next-init : goal.loop-next-init
loop-next-init c = moved_free c.args.problem.now c.args.m.now c.args.known.now c.requires c.laws.ensures c.args.s c.args.z

pub loop-next-preserved : goal.loop-next-preserved
loop-next-preserved c =
    left_less (IsMovedFree c.args.problem.now c.args.m.now c.args.s c.args.z) ((x : ℕ) → IsFree c.args.problem.now c.args.m.now (En2 x c.args.s c.args.z)) c.loop-next.rest.now c.in-Some.later.now c.in-Some.next.now (search rules)
    c.in_default-moved_member.ensures.none c.loop-next.invariant

pub returns-clause-none : goal.returns-clause-none
returns-clause-none c =
    left_none (IsMovedFree c.args.problem.now c.args.m.now c.args.s c.args.z) ((x : ℕ) → IsFree c.args.problem.now c.args.m.now (En2 x c.args.s c.args.z)) c.loop-next.rest.now (search rules) c.loop-next.invariant
