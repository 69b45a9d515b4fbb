use Rattle.std.proofs.Common.{arith}
use Rattle.std.proofs.lemmas.Int.{ints}
use Rattle.sc_date_texts.proofs.CivilLaws.{no_date, no_year, no_date_out, no_year_out, civil_is, quotient_is}
use Rattle.sc_date_texts.proofs.written.civil_date.Goals as goal

pub returns-in_err-date-clause-none : goal.returns-in_err-date-clause-none
returns-in_err-date-clause-none c = let v = c.in_err-date.ensures.value in
    rw c.from_residual.ensures (no_date _ _ c.from_unix_epoch_day.result (quotient_is _ _ c.ranges.milliseconds (record { sfits = c.div_euclid.type_inv }) c.div_euclid.ensures) c.from_unix_epoch_day.ensures.succeeds v)

pub returns-then-date-lt0-clause-none : goal.returns-then-date-lt0-clause-none
returns-then-date-lt0-clause-none c = no_year _ _ c.from_unix_epoch_day.result c.in_ok-date.date (quotient_is _ _ c.ranges.milliseconds (record { sfits = c.div_euclid.type_inv }) c.div_euclid.ensures) c.from_unix_epoch_day.ensures.value c.in_ok-date.ensures.value (omega (arith, ints))

pub returns-else-date-lt0-clause-some : goal.returns-else-date-lt0-clause-some
returns-else-date-lt0-clause-some c = civil_is _ _ c.from_unix_epoch_day.result c.in_ok-date.date (quotient_is _ _ c.ranges.milliseconds (record { sfits = c.div_euclid.type_inv }) c.div_euclid.ensures) c.from_unix_epoch_day.ensures.value c.in_ok-date.ensures.value (omega (arith, ints))

pub returns-in_err-date-clause-out : goal.returns-in_err-date-clause-out
returns-in_err-date-clause-out c = let v = c.in_err-date.ensures.value in
    rw c.from_residual.ensures (no_date_out _ _ c.from_unix_epoch_day.result (quotient_is _ _ c.ranges.milliseconds (record { sfits = c.div_euclid.type_inv }) c.div_euclid.ensures) c.from_unix_epoch_day.ensures.succeeds v)

pub returns-then-date-lt0-clause-out : goal.returns-then-date-lt0-clause-out
returns-then-date-lt0-clause-out c = no_year_out _ _ c.from_unix_epoch_day.result c.in_ok-date.date (quotient_is _ _ c.ranges.milliseconds (record { sfits = c.div_euclid.type_inv }) c.div_euclid.ensures) c.from_unix_epoch_day.ensures.value c.in_ok-date.ensures.value (omega (arith, ints))
