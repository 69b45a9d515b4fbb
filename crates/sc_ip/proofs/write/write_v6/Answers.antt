use Rattle.std.proofs.Common.{string_bytes}
use Rattle.sc_ip.proofs.WrittenLaws.{v6_written}
use Rattle.sc_ip.proofs.write.write_v6.Goals as goal

pub returns : goal.returns
returns c =
    let h = rw (c.in_radix.ensures, c.in_radix-2.ensures, c.in_radix-3.ensures, c.in_radix-4.ensures, c.in_radix-5.ensures, c.in_radix-6.ensures, c.in_radix-7.ensures, c.in_radix-8.ensures) at c.format.ensures.ok in
    rw (c.group_at-a.ensures, c.group_at-b.ensures, c.group_at-c.ensures, c.group_at-d.ensures, c.group_at-e.ensures, c.group_at-f.ensures, c.group_at-g.ensures, c.group_at-h.ensures) at
    (v6_written string_bytes c.format.result _ _ _ _ _ _ _ _ _ h)
