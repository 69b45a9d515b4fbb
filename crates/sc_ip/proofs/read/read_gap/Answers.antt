use Rattle.std.proofs.Common.{arith, ap, ◌+◌, ◌^◌, ◌<◌}
use Rattle.sc_ip.proofs.AddressLaws.{gap_count, gap_fits, gap_is}
use Rattle.sc_ip.proofs.read.read_gap.Goals as goal

pub returns-then-front-back-gt7-clause-none : goal.returns-then-front-back-gt7-clause-none
returns-then-front-back-gt7-clause-none c a g =
    let few = gap_count c.args.front.now c.args.back.now _ _ _ _ a c.in_ok-front.ensures.some c.in_ok-back.ensures.some g in
    omega arith

pub overflow_add-result : goal.overflow_add-result
overflow_add-result c =
    let h : c.filled.result + c.in_ok-back.back.value < 2 ^ 128 =
    rw c.filled.ensures.value (gap_fits c.in_ok-front.front.value c.in_ok-back.back.value c.in_ok-front.front.count c.in_ok-back.back.count
    (rw c.filled.ensures.value at c.filled.ensures.in_range) c.in_ok-back.back.in_range (omega arith)) in
    omega arith

pub returns-clause-some : goal.returns-clause-some
returns-clause-some c =
    gap_is c.args.front.now c.args.back.now _ _ _ _ _ c.in_ok-front.ensures.some c.in_ok-back.ensures.some (omega arith) (ap (λ v. v + c.in_ok-back.back.value) c.filled.ensures.value)
