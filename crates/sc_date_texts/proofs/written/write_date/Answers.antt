use Rattle.std.proofs.Common.{string_bytes, arith, ap, SFits, unsigned_abs, ◌<◌}
use Rattle.std.proofs.lemmas.Int.{ints, to_z-of_z}
use Rattle.std.specs.Int.{w16}
use Rattle.std.specs.Fmt.{styled_decimal, format_spec}
use Rattle.jiff_core.proofs.CalendarLemmas.{days_in_month_bounds}
use Rattle.sc_date_texts.proofs.PaddedLaws.{date_is, two_is, three_is, four_is}
use Rattle.sc_date_texts.proofs.written.write_date.Goals as goal

pub returns : goal.returns
returns c =
    let fits : SFits w16 c.args.date.year = let l = c.args.date.year_in in omega (arith, ints) in
    let year : unsigned_abs c.args.date.year < 10000 = let l = c.args.date.year_in in omega (arith, ints) in
    let month : c.args.date.month < 100 = let l = c.args.date.month_in in omega arith in
    let day : c.args.date.day < 100 = let l = c.args.date.day_in in let m = days_in_month_bounds c.args.date.year c.args.date.month in omega arith in
    date_is styled_decimal _ _ (format_spec 32 0 4 3 18446744073709551615) four_is two_is three_is string_bytes c.format.result _ (unsigned_abs c.args.date.year) _ _ _ _ _ (ap unsigned_abs (to_z-of_z w16 c.args.date.year fits))
    c.laid_out.ensures c.laid_out-2.ensures c.laid_out-3.ensures year month day c.format.ensures.ok
