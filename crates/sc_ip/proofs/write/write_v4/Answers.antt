use Rattle.std.proofs.Common.{string_bytes}
use Rattle.sc_ip.proofs.WrittenLaws.{v4_written}
use Rattle.sc_ip.proofs.write.write_v4.Goals as goal

pub returns : goal.returns
returns c = v4_written string_bytes c.format.result c.args.address c.args.prefix c.format.ensures.ok
