use Rattle.std.proofs.Common.{arith}
use Rattle.sc_ip.proofs.GroupLaws.{one_more_fits, base-le}
use Rattle.sc_ip.specs.Notations.{base_of}
use Rattle.sc_ip.proofs.groups.Groups.followed_by.Goals as goal

pub overflow_mul-result : goal.overflow_mul-result
overflow_mul-result c =
    let fits = one_more_fits c.args.self.value c.args.self.count (base_of c.args.notation) c.args.group c.requires.room c.args.self.in_range (base-le c.args.notation) c.requires.group_in_range in
    rw c.base.ensures (omega arith)

pub overflow_add-result : goal.overflow_add-result
overflow_add-result c =
    let fits = one_more_fits c.args.self.value c.args.self.count (base_of c.args.notation) c.args.group c.requires.room c.args.self.in_range (base-le c.args.notation) c.requires.group_in_range in
    rw (c.base.ensures, c.from.ensures) (omega arith)
