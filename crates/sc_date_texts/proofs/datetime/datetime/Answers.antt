use Rattle.std.proofs.Common.{arith}
use Rattle.std.proofs.lemmas.Int.{ints}
use Rattle.sc_date_texts.proofs.DateLaws.{day_bound, moment_bound}
use Rattle.sc_date_texts.proofs.MomentLaws.{short_text, no_date, no_moment, date_alone, date_and_moment}
use Rattle.sc_date_texts.proofs.datetime.datetime.Goals as goal

pub returns-then-text-lt10-clause-none : goal.returns-then-text-lt10-clause-none
returns-then-text-lt10-clause-none c = short_text _ (omega arith)

pub returns-in_err-day-clause-none : goal.returns-in_err-day-clause-none
returns-in_err-day-clause-none c = rw c.from_residual.ensures (no_date _ _ c.split_at.ensures.front c.in_err-day.ensures.none)

pub overflow_mul-result : goal.overflow_mul-result
overflow_mul-result c = let b = day_bound _ _ c.in_ok-day.ensures.some in omega (arith, ints)

pub overflow_mul-result-2 : goal.overflow_mul-result-2
overflow_mul-result-2 c = let b = day_bound _ _ c.in_ok-day.ensures.some in omega (arith, ints)

pub returns-then-is_empty-clause-some : goal.returns-then-is_empty-clause-some
returns-then-is_empty-clause-some c =
    let b = day_bound _ _ c.in_ok-day.ensures.some in
    date_alone _ _ _ _ c.split_at.ensures.front (let e = c.if-is_empty.ensures in let l = c.split_at.ensures.back_len in grind arith) c.in_ok-day.ensures.some (omega (arith, ints))

pub returns-in_err-moment-clause-none : goal.returns-in_err-moment-clause-none
returns-in_err-moment-clause-none c = rw c.from_residual-in_err-moment.ensures (no_moment _ _ c.split_at.ensures.back (let e = c.if-is_empty.ensures in let l = c.split_at.ensures.back_len in grind arith) c.in_err-moment.ensures.none)

pub overflow_add-result : goal.overflow_add-result
overflow_add-result c =
    let b = day_bound _ _ c.in_ok-day.ensures.some in
    let m = moment_bound _ _ c.in_ok-moment.ensures.some in
    omega (arith, ints)

pub returns-clause-some : goal.returns-clause-some
returns-clause-some c =
    let b = day_bound _ _ c.in_ok-day.ensures.some in
    let m = moment_bound _ _ c.in_ok-moment.ensures.some in
    date_and_moment _ _ _ _ _ _ c.split_at.ensures.front c.split_at.ensures.back c.in_ok-day.ensures.some c.in_ok-moment.ensures.some (omega (arith, ints))
