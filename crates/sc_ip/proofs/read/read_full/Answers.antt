use Rattle.sc_ip.proofs.AddressLaws.{full_count}
use Rattle.sc_ip.proofs.read.read_full.Goals as goal

pub returns-then-groups-ne8-clause-none : goal.returns-then-groups-ne8-clause-none
returns-then-groups-ne8-clause-none c a f = c.if-groups-ne8.true (full_count c.args.text.now _ _ a c.in_ok-groups.ensures.some f)
