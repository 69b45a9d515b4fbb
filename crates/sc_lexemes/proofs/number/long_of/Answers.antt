use Rattle.std.proofs.Common.{refl, arith}
use Rattle.sc_lexemes.proofs.NumberLaws.{value_more, large}
use Rattle.sc_lexemes.proofs.number.long_of.Goals as goal

pub returns-then-value : goal.returns-then-value
returns-then-value c h = large _ _ _ _ _ c.loop-byte.invariant.value c.loop-byte-test.true refl c.digit_value.ensures c.if-value.true (rw c.as_bytes-byte-items.ensures.value h)

pub loop-byte-preserved : goal.loop-byte-preserved
loop-byte-preserved c = record {
  long = omega arith;
  value = rw c.digit_value.ensures (value_more _ _ _ _ c.loop-byte.invariant.value c.loop-byte-test.true refl);
}
