use Rattle.std.proofs.Common.{arith, sym}
use Rattle.sc_date_texts.proofs.FormLaws.{fits_length}
use Rattle.sc_date_texts.proofs.datetime.clock.Goals as goal

pub two_at-hour-requires : goal.two_at-hour-requires
two_at-hour-requires c = let l = fits_length _ _ (sym c.if-not-fits.ensures) in omega arith

pub two_at-minute-requires : goal.two_at-minute-requires
two_at-minute-requires c = let l = fits_length _ _ (sym c.if-not-fits.ensures) in omega arith

pub two_at-second-requires : goal.two_at-second-requires
two_at-second-requires c = let l = fits_length _ _ (sym c.if-not-fits.ensures) in omega arith
