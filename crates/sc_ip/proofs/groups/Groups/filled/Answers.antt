use Rattle.std.proofs.Common.{arith, ◌*◌, ◌^◌, ◌<◌}
use Rattle.sc_ip.proofs.AddressLaws.{filled_fits, filled-lt, seven_fit}
use Rattle.sc_ip.proofs.groups.Groups.filled.Goals as goal

pub pow-requires : goal.pow-requires
pow-requires c = seven_fit c.args.self.count (omega arith)

pub overflow_mul-result : goal.overflow_mul-result
overflow_mul-result c =
    let h : c.args.self.value * c.pow.result < 2 ^ 128 = rw c.pow.ensures (filled-lt c.args.self.value c.args.self.count c.args.self.in_range c.args.self.at_most_eight) in
    omega arith

pub returns-clause-in_range : goal.returns-clause-in_range
returns-clause-in_range c = rw c.pow.ensures (filled_fits c.args.self.value c.args.self.count c.args.self.in_range c.args.self.at_most_eight)
