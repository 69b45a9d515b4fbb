use Rattle.std.proofs.Common.{◌<◌, arith}
use Rattle.std.proofs.lemmas.Int.Digits.{digits_value_more}
use Rattle.sc_lexer.proofs.DigitLaws.{value_small, value_more}
use Rattle.sc_lexer.proofs.escape.digits_value.Goals as goal

pub overflow_mul-value : goal.overflow_mul-value
overflow_mul-value c = let small : c.loop-digit.value < 1048576 = value_small _ _ _ c.loop-digit.invariant.1 c.loop-digit-test.true c.requires.few in omega arith

pub overflow_add-value : goal.overflow_add-value
overflow_add-value c = let small : c.loop-digit.value < 1048576 = value_small _ _ _ c.loop-digit.invariant.1 c.loop-digit-test.true c.requires.few in omega arith

pub loop-digit-preserved : goal.loop-digit-preserved
loop-digit-preserved c =
    let more = digits_value_more 16 c.args.digits.now c.loop-digit.digit-index c.loop-digit-test.true in
    (cc, value_more _ _ _ c.loop-digit.invariant.1 c.digit_value.ensures.small)
