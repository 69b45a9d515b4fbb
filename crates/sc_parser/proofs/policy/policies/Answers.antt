use Rattle.std.proofs.Common.{refl}
use Rattle.sc_parser.proofs.PolicyStepLaws.{ended, refused, spent, stopped, gone_on}
use Rattle.sc_parser.proofs.StopLaws.{handed_on}
use Rattle.sc_parser.proofs.policy.policies.Goals as goal

pub returns-then-not-policy_at-clause-err : goal.returns-then-not-policy_at-clause-err
returns-then-not-policy_at-clause-err c = λ _. c.loop-at.invariant.rest _ (refused _ _ _ c.loop-at-test.true (c.if-not-policy_at.ensures.no refl))

pub returns-then-not-has_room-clause-err : goal.returns-then-not-has_room-clause-err
returns-then-not-has_room-clause-err c = λ _. c.loop-at.invariant.rest _ (spent _ _ _ _ (c.if-not-policy_at.ensures.yes refl) c.len.ensures c.if-not-has_room.ensures)

pub returns-in_err-outcome-clause-err : goal.returns-in_err-outcome-clause-err
returns-in_err-outcome-clause-err c = handed_on _ _ _ c.from_residual.ensures.1 (λ n. c.loop-at.invariant.rest _ (stopped _ _ _ _ _ _ _ (c.if-not-policy_at.ensures.yes refl) c.len.ensures c.if-not-has_room.ensures c.outside-cursor.ensures (c.in_err-outcome.ensures.err n)))

pub loop-at-preserved : goal.loop-at-preserved
loop-at-preserved c = record {
  within = c.policy-outcome.ensures.within;
  rest = λ o m. c.loop-at.invariant.rest o (gone_on _ _ _ _ _ _ _ _ _ (c.if-not-policy_at.ensures.yes refl) c.len.ensures c.if-not-has_room.ensures c.outside-cursor.ensures c.in_ok-outcome.ensures.ok c.in_ok-push.ensures.ok m);
}

pub returns-clause-ok : goal.returns-clause-ok
returns-clause-ok c = c.loop-at.invariant.rest _ (ended _ _ _ c.loop-at-test.false)
