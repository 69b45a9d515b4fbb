use Rattle.sc_ip.proofs.RangeTestLaws.{is_in_range-decides, is_loopback-decides, is_multicast-decides}
use Rattle.sc_ip.proofs.laws.range_laws.Goals as goal

pub returns : goal.returns
returns c = record { in_range = is_in_range-decides; loopback = is_loopback-decides; multicast = is_multicast-decides }
