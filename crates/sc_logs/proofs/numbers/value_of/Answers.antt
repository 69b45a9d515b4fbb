use Rattle.std.proofs.Common.{◌<◌, ◌^◌, arith}
use Rattle.std.proofs.lemmas.Int.Digits.{digits_more}
use Rattle.sc_logs.proofs.NumberLaws.{value_small, value_more}
use Rattle.sc_logs.proofs.numbers.value_of.Goals as goal

pub overflow_mul-value : goal.overflow_mul-value
overflow_mul-value c =
    let small : c.loop-byte.value < 10 ^ 17 = value_small _ _ _ c.loop-byte.invariant.value c.loop-byte.invariant.digits c.loop-byte-test.true (omega (arith, c.requires)) in
    omega arith

pub overflow_add-value : goal.overflow_add-value
overflow_add-value c =
    let small : c.loop-byte.value < 10 ^ 17 = value_small _ _ _ c.loop-byte.invariant.value c.loop-byte.invariant.digits c.loop-byte-test.true (omega (arith, c.requires)) in
    let digit = c.if-not-is_ascii_digit.ensures.cases in
    omega (arith, digit)

pub loop-byte-preserved : goal.loop-byte-preserved
loop-byte-preserved c = record {
  digits = digits_more 10 c.args.word.now c.loop-byte.byte-index c.loop-byte-test.true c.loop-byte.invariant.digits c.if-not-is_ascii_digit.ensures.bound;
  value = value_more _ _ c.args.word.now c.loop-byte.invariant.value c.loop-byte-test.true c.if-not-is_ascii_digit.ensures.cases;
}
