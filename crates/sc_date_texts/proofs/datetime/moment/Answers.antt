use Rattle.std.proofs.Common.{arith, refl}
use Rattle.std.proofs.lemmas.Int.{ints}
use Rattle.sc_date_texts.proofs.DateLaws.{clock_bound, fraction_bound, zone_bound}
use Rattle.sc_date_texts.proofs.MomentLaws.{cut_is, short_moment, no_clock, no_fraction, no_zone, moment_is}
use Rattle.sc_date_texts.proofs.datetime.moment.Goals as goal

pub returns-then-text-lt9-clause-none : goal.returns-then-text-lt9-clause-none
returns-then-text-lt9-clause-none c = short_moment _ (omega arith)

pub returns-in_err-time-clause-none : goal.returns-in_err-time-clause-none
returns-in_err-time-clause-none c = rw c.from_residual.ensures
    (no_clock _ _ _ _ (record { clock_is = c.split_at.ensures.front; part_is = refl; zone_is = refl }) c.in_err-time.ensures.none)

pub returns-in_err-milliseconds-clause-none : goal.returns-in_err-milliseconds-clause-none
returns-in_err-milliseconds-clause-none c = rw c.from_residual-in_err-milliseconds.ensures
    (no_fraction _ _ _ _ (cut_is _ _ _ _ _ _ c.split_at.ensures.front c.split_at.ensures.back c.fraction_length.ensures c.split_at-2.ensures.front c.split_at-2.ensures.back) c.in_err-milliseconds.ensures.none)

pub overflow_add-time : goal.overflow_add-time
overflow_add-time c = let a = clock_bound _ _ c.in_ok-time.ensures.some in let b = fraction_bound _ _ c.in_ok-milliseconds.ensures.some in omega arith

pub returns-in_err-zone-clause-none : goal.returns-in_err-zone-clause-none
returns-in_err-zone-clause-none c = rw c.from_residual-in_err-zone.ensures
    (no_zone _ _ _ _ (cut_is _ _ _ _ _ _ c.split_at.ensures.front c.split_at.ensures.back c.fraction_length.ensures c.split_at-2.ensures.front c.split_at-2.ensures.back) c.in_err-zone.ensures.none)

pub returns-clause-some : goal.returns-clause-some
returns-clause-some c =
    let a = clock_bound _ _ c.in_ok-time.ensures.some in
    let b = fraction_bound _ _ c.in_ok-milliseconds.ensures.some in
    let d = zone_bound _ _ c.in_ok-zone.ensures.some in
    moment_is _ _ _ _ (cut_is _ _ _ _ _ _ c.split_at.ensures.front c.split_at.ensures.back c.fraction_length.ensures c.split_at-2.ensures.front c.split_at-2.ensures.back) _ _ _ _ c.in_ok-time.ensures.some c.in_ok-milliseconds.ensures.some c.in_ok-zone.ensures.some (omega (arith, ints))
