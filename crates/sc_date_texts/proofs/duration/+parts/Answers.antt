use Rattle.std.proofs.Common.{subst, sym, refl, arith}
use Rattle.std.specs.Str.Parse.{AllDigits}
use Rattle.std.proofs.lemmas.Bool.{false≢true}
use Rattle.sc_date_texts.proofs.PartLaws.{front_are_digits}
use Rattle.sc_date_texts.proofs.StepLaws.{no_units, no_length, product_is, here_is, large_number, large_product, no_rest, sum_some, sum_none, none_of, left_some, left_none}
use Rattle.sc_date_texts.proofs.duration.+parts.Goals as goal

pub number-requires : goal.number-requires
number-requires t c = subst (AllDigits 10) (sym c.front.ensures.digits_are) (front_are_digits c.args.text.now)

pub returns-then-is_empty-clause-some : goal.returns-then-is_empty-clause-some
returns-then-is_empty-clause-some t c = no_units _ _ (no_length _ c.in_default.ensures.cases) (no_length _ (let e = c.if-is_empty.ensures in grind arith))

pub returns-then-not-is_part-clause-some : goal.returns-then-not-is_part-clause-some
returns-then-not-is_part-clause-some t c = left_some _ _ _ _ _ c.in-Some.ensures.cases.0 c.parts.ensures.some

pub returns-then-not-is_part-clause-none : goal.returns-then-not-is_part-clause-none
returns-then-not-is_part-clause-none t c =
    left_none _ _ _ _ (none_of _ _ _ _ _ _ _ c.in-Some.ensures.cases.0 c.front.ensures (λ h. false≢true (c.if-not-is_part.ensures.1 h))) c.parts.ensures.none

pub returns-in_err-number-clause-none : goal.returns-in_err-number-clause-none
returns-in_err-number-clause-none t c = rw c.from_residual.ensures (large_number _ _ _ _ _ _ _
    (record { units_are = c.in-Some.ensures.cases.0; apart = c.requires; front = c.front.ensures; is_part = c.if-not-is_part.ensures.0 refl }) c.in_err-number.ensures)

pub returns-in_err-here-clause-none : goal.returns-in_err-here-clause-none
returns-in_err-here-clause-none t c = rw c.from_residual-in_err-here.ensures (large_product _ _ _ _ _ _ _
    (record { units_are = c.in-Some.ensures.cases.0; apart = c.requires; front = c.front.ensures; is_part = c.if-not-is_part.ensures.0 refl })
    (λ small. c.in_err-here.ensures (product_is _ _ _ _ c.in_ok-number.ensures.1 c.milliseconds.ensures small)))

pub returns-in_err-parts-clause-none : goal.returns-in_err-parts-clause-none
returns-in_err-parts-clause-none t c = rw c.from_residual-in_err-parts.ensures (no_rest _ _ _ _ _ _ _
    (record { units_are = c.in-Some.ensures.cases.0; apart = c.requires; front = c.front.ensures; is_part = c.if-not-is_part.ensures.0 refl }) c.in_err-parts.ensures.none)

pub returns-clause-some : goal.returns-clause-some
returns-clause-some t c = sum_some _ _ _ _ _ _ _
    (record { units_are = c.in-Some.ensures.cases.0; apart = c.requires; front = c.front.ensures; is_part = c.if-not-is_part.ensures.0 refl })
    _ _ _ (here_is _ _ _ _ _ c.in_ok-here.ensures.1 c.in_ok-number.ensures.1 c.milliseconds.ensures) c.in_ok-parts.ensures.some c.checked_add.ensures

pub returns-clause-none : goal.returns-clause-none
returns-clause-none t c = sum_none _ _ _ _ _ _ _
    (record { units_are = c.in-Some.ensures.cases.0; apart = c.requires; front = c.front.ensures; is_part = c.if-not-is_part.ensures.0 refl })
    _ _ _ (here_is _ _ _ _ _ c.in_ok-here.ensures.1 c.in_ok-number.ensures.1 c.milliseconds.ensures) c.in_ok-parts.ensures.some c.checked_add.ensures
