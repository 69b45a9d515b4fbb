use Rattle.std.proofs.Common.{arith}
use Rattle.sc_decimal.proofs.DecimalLaws.{sum_of_parts, no_point, none_from_some_iff}
use Rattle.sc_decimal.proofs.read.magnitude.Goals as goal

pub returns-in_err-whole-clause-none : goal.returns-in_err-whole-clause-none
returns-in_err-whole-clause-none c = rw c.from_residual.ensures (λ n small m. no_point _ c.in_err-whole.ensures.cases n m)

pub returns-in_err-number-clause-none : goal.returns-in_err-number-clause-none
returns-in_err-number-clause-none c = rw c.from_residual-in_err-number.ensures (λ n small m.
    let s = sum_of_parts _ (c.in_ok-whole.whole, c.in_ok-whole.fraction) c.in_ok-whole.ensures.cases n m in
    c.in_err-number.ensures (s.whole_digits, (let e = s.value in omega arith)))

pub returns-in_err-whole-2-clause-none : goal.returns-in_err-whole-2-clause-none
returns-in_err-whole-2-clause-none c = rw c.from_residual-in_err-whole-2.ensures (λ n small m.
    let s = sum_of_parts _ (c.in_ok-whole.whole, c.in_ok-whole.fraction) c.in_ok-whole.ensures.cases n m in
    let e = s.value in let over = c.in_err-whole-2.ensures in let two = c.in_ok-number.ensures in over (omega arith))

pub returns-in_err-ten_thousandths-clause-none : goal.returns-in_err-ten_thousandths-clause-none
returns-in_err-ten_thousandths-clause-none c = rw c.from_residual-in_err-ten_thousandths.ensures (λ n small m.
    let s = sum_of_parts _ (c.in_ok-whole.whole, c.in_ok-whole.fraction) c.in_ok-whole.ensures.cases n m in
    c.in_err-ten_thousandths.ensures (s.fraction_digits, s.at_most_four))

pub returns-clause-none : goal.returns-clause-none
returns-clause-none c = none_from_some_iff _ _ _ _ c.checked_add.ensures (λ over n small m.
    let s = sum_of_parts _ (c.in_ok-whole.whole, c.in_ok-whole.fraction) c.in_ok-whole.ensures.cases n m in
    let e = s.value in let one = c.in_ok-number.ensures in let two = c.in_ok-whole-2.ensures in let three = c.in_ok-ten_thousandths.ensures in over (omega arith))
