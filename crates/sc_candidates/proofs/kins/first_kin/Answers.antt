use Rattle.std.proofs.Common.{length}
use Rattle.sc_candidates.specs.Crowds.{IsCrowdWithin}
use Rattle.sc_candidates.specs.Kins.{kin_of_itself}
use Rattle.sc_candidates.proofs.DividedLaws.{item_at}
use Rattle.sc_candidates.proofs.kins.first_kin.Goals as goal

pub are_kin-requires-clause-s_in : goal.are_kin-requires-clause-s_in
are_kin-requires-clause-s_in c =
    (item_at (IsCrowdWithin (length c.args.terms.now)) c.args.kins.now c.requires.kins_in c.loop-kin.kin-index c.kin-item.result c.loop-kin-test.true c.kin-item.is).0

pub returns-then-are_kin-clause-are : goal.returns-then-are_kin-clause-are
returns-then-are_kin-clause-are c = c.are_kin.ensures c.if-are_kin.true

pub returns-clause-are : goal.returns-clause-are
returns-clause-are c = kin_of_itself _
