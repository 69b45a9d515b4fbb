use Rattle.std.proofs.Common.{length}
use Rattle.sc_candidates.specs.Crowds.{IsCrowdWithin}
use Rattle.sc_candidates.proofs.DividedLaws.{item_at}
use Rattle.sc_candidates.proofs.KinLaws.{kin_at}
use Rattle.sc_candidates.proofs.kins.is_known.Goals as goal

pub is_in_kin-requires-clause-kin_in : goal.is_in_kin-requires-clause-kin_in
is_in_kin-requires-clause-kin_in c =
    item_at (IsCrowdWithin (length c.args.terms.now)) c.args.kins.now c.requires.kins_in c.loop-kin.kin-index c.kin-item.result c.loop-kin-test.true c.kin-item.is

pub returns-then-is_in_kin : goal.returns-then-is_in_kin
returns-then-is_in_kin c = λ h. kin_at _ c.args.kins.now c.loop-kin.kin-index _ _ c.kin-item.result c.loop-kin-test.true c.kin-item.is (c.is_in_kin.ensures c.if-is_in_kin.true)
