use Rattle.sc_ip.proofs.AddressLaws.{v4_count, v4_fits}
use Rattle.sc_ip.proofs.read.read_v4.Goals as goal

pub returns-then-groups-ne4-clause-none : goal.returns-then-groups-ne4-clause-none
returns-then-groups-ne4-clause-none c a f = c.if-groups-ne4.true (v4_count c.args.text.now _ _ a c.in_ok-groups.ensures.some f).0

pub returns-clause-none : goal.returns-clause-none
returns-clause-none c = rw c.ok.ensures.value (v4_fits c.args.text.now _ _ c.try_from.result c.in_ok-groups.ensures.some c.try_from.ensures)
