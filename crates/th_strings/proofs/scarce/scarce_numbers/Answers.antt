use Rattle.std.proofs.Common.{List, ℕ, subst}
use Rattle.th_strings.proofs.ScarceLaws.{AreScarceSoFar, scarce_more}
use Rattle.th_strings.proofs.scarce.scarce_numbers.Goals as goal

pub loop-n-preserved-in_ok-push : goal.loop-n-preserved-in_ok-push
loop-n-preserved-in_ok-push c = record {
  told = c.in_ok-is_scarce.ensures.told;
  so_far = rw c.in_ok-push.ensures.items (scarce_more c.args.problem.now c.args.m.now c.args.patterns.now c.args.count c.args.numbers.now c.in-Some.n.now c.in-Some.later.now c.loop-n.scarce.items c.in_ok-is_scarce.field-0
      (subst (λ (ns : List ℕ). AreScarceSoFar c.args.problem.now c.args.m.now c.args.patterns.now c.args.count c.args.numbers.now ns c.loop-n.scarce.items) c.in-Some.ensures.cases.0 c.loop-n.invariant.so_far)
      c.if-branch.true c.in_ok-is_scarce.ensures.scarce);
}
