use Rattle.std.proofs.Common.{arith, sym, refl}
use Rattle.sc_date_texts.specs.DatetimeText.{whole, fraction}
use Rattle.sc_date_texts.proofs.FormLaws.{fits_length}
use Rattle.sc_date_texts.proofs.StepLaws.{no_length}
use Rattle.sc_date_texts.proofs.datetime.fraction.Goals as goal

pub three_at-requires : goal.three_at-requires
three_at-requires c = let l = fits_length _ _ (sym c.if-fits.ensures) in omega arith

pub returns-then-is_empty-clause-some : goal.returns-then-is_empty-clause-some
returns-then-is_empty-clause-some c = whole (no_length _ (let e = c.if-is_empty.ensures in grind arith)) refl

pub returns-then-fits-clause-some : goal.returns-then-fits-clause-some
returns-then-fits-clause-some c = fraction (sym c.if-fits.ensures) c.three_at.ensures
