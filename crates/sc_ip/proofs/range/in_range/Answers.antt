use Rattle.sc_ip.proofs.RangeTestLaws.{in_range_is}
use Rattle.sc_ip.proofs.range.in_range.Goals as goal

pub returns-clause-value : goal.returns-clause-value
returns-clause-value c = in_range_is c.lies_in.result c.args.a.now c.args.b.now c.lies_in.ensures
