use Rattle.std.proofs.Common.{arith}
use Rattle.th_entities_instances.proofs.declared.uid_at.Goals as goal

pub returns-then-place-uids : goal.returns-then-place-uids
returns-then-place-uids c = λ h. absurd (omega (arith, h, c.if-place-uids.true))
