use Rattle.std.proofs.Common.{◌≤◌, length, arith}
use Rattle.sc_refutations.proofs.ArenaLaws.{ordered_within}
use Rattle.sc_refutations.proofs.arena.Arena.clause.Goals as goal

pub codes_at-requires : goal.codes_at-requires
codes_at-requires c =
    let n = length c.self.inside.codes.items in
    let same : n ≤ n = omega arith in
    rw (c.as_slice.ensures.value, c.as_slice-2.ensures.value) (ordered_within 0 c.self.inside.ends.items n n same c.self.invariant)
