use Rattle.std.proofs.Common.{arith, sym, refl}
use Rattle.std.proofs.lemmas.Int.{ints}
use Rattle.sc_date_texts.proofs.DateLaws.{date_is}
use Rattle.sc_date_texts.proofs.FormLaws.{fits_length, two_small, four_small}
use Rattle.sc_date_texts.proofs.datetime.date.Goals as goal

pub four_at-requires : goal.four_at-requires
four_at-requires c = let l = fits_length _ _ (sym c.if-not-fits.ensures) in omega arith

pub two_at-requires : goal.two_at-requires
two_at-requires c = let l = fits_length _ _ (sym c.if-not-fits.ensures) in omega arith

pub two_at-requires-2 : goal.two_at-requires-2
two_at-requires-2 c = let l = fits_length _ _ (sym c.if-not-fits.ensures) in omega arith

pub overflow_cast-four_at : goal.overflow_cast-four_at
overflow_cast-four_at c = let l = four_small _ _ (sym c.if-not-fits.ensures) 0 refl refl refl refl in omega arith

pub overflow_cast-two_at : goal.overflow_cast-two_at
overflow_cast-two_at c = let l = two_small _ _ (sym c.if-not-fits.ensures) 5 refl refl in omega arith

pub overflow_cast-two_at-2 : goal.overflow_cast-two_at-2
overflow_cast-two_at-2 c = let l = two_small _ _ (sym c.if-not-fits.ensures) 8 refl refl in omega arith

pub returns-clause-some : goal.returns-clause-some
returns-clause-some c =
    let form = sym c.if-not-fits.ensures in
    let y = four_small _ _ form 0 refl refl refl refl in
    let m = two_small _ _ form 5 refl refl in
    let d = two_small _ _ form 8 refl refl in
    date_is c.args.text.now _ _ _ c.new.result c.in_ok-date.date _ form (omega (arith, ints)) (omega (arith, ints)) (omega (arith, ints)) c.new.ensures.succeeds c.new.ensures.value c.in_ok-date.ensures.value
    (omega (arith, ints))
