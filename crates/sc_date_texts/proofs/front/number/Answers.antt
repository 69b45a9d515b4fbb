use Rattle.std.proofs.Common.{◌≡◌, ◌^◌, ◌∙◌, arith, ap}
use Rattle.std.proofs.lemmas.List.{take_all}
use Rattle.std.specs.Str.Parse.{digits_value}
use Rattle.sc_date_texts.proofs.FrontLaws.{next_digit, too_large}
use Rattle.sc_date_texts.proofs.front.number.Goals as goal

pub returns-in_err-checked_mul : goal.returns-in_err-checked_mul
returns-in_err-checked_mul c = rw c.from_residual.ensures (λ small.
    let over = c.in_err-checked_mul.ensures in
    let large = too_large c.args.digits.now c.loop-digit.digit-index c.loop-digit.number (2 ^ 64) c.requires c.loop-digit-test.true c.loop-digit.invariant.value (omega arith) in
    omega arith)

pub overflow_sub-digit : goal.overflow_sub-digit
overflow_sub-digit c = (next_digit c.args.digits.now c.loop-digit.digit-index c.loop-digit.number c.requires c.loop-digit-test.true c.loop-digit.invariant.value).0

pub returns-in_err-number : goal.returns-in_err-number
returns-in_err-number c = rw c.from_residual-in_err-number.ensures (λ small.
    let over = c.in_err-number.ensures in
    let product = c.in_ok-checked_mul.ensures in
    let large = too_large c.args.digits.now c.loop-digit.digit-index c.loop-digit.number (2 ^ 64) c.requires c.loop-digit-test.true c.loop-digit.invariant.value (omega arith) in
    omega arith)

pub loop-digit-preserved : goal.loop-digit-preserved
loop-digit-preserved c =
    let step = next_digit c.args.digits.now c.loop-digit.digit-index c.loop-digit.number c.requires c.loop-digit-test.true c.loop-digit.invariant.value in
    let sum = c.in_ok-number.ensures in
    record { value = omega (arith, sum); fits = omega (arith, sum) }

pub returns : goal.returns
returns c =
    let all = take_all c.loop-digit.digit-index c.args.digits.now (omega arith) in
    let value : c.loop-digit.number ≡ digits_value 10 c.args.digits.now = c.loop-digit.invariant.value ∙ ap (digits_value 10) all in
    (omega arith, value)
