use Rattle.std.proofs.Common.{string_bytes}
use Rattle.sc_ip.proofs.WrittenLaws.{reads_back}
use Rattle.sc_ip.proofs.write.write_ip.Goals as goal

pub returns-in-V4-clause-reads_back : goal.returns-in-V4-clause-reads_back
returns-in-V4-clause-reads_back c h = reads_back string_bytes c.write_v4.result c.args.a.now h (rw c.in-V4.is c.write_v4.ensures)

pub returns-in-V6-clause-reads_back : goal.returns-in-V6-clause-reads_back
returns-in-V6-clause-reads_back c h = reads_back string_bytes c.write_v6.result c.args.a.now h (rw c.in-V6.is c.write_v6.ensures)
