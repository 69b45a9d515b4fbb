use Rattle.std.proofs.Common.{◌<◌, ◌^◌, arith}
use Rattle.sc_logs.proofs.PlaceLaws.{place_small, place_more, place_digits, place_read}
use Rattle.sc_logs.proofs.whole_lines.number_from.Goals as goal

pub overflow_mul-value : goal.overflow_mul-value
overflow_mul-value c =
    let small : c.loop-i.value < 10 ^ 18
    = place_small _ c.args.first c.loop-i.i 18 c.args.from c.args.bytes.now c.loop-i.invariant.value c.requires.digit.0 c.requires.digit.1
    c.loop-i.invariant.digits c.loop-i.invariant.within (omega arith) in
    omega arith

pub overflow_add-value : goal.overflow_add-value
overflow_add-value c =
    let small : c.loop-i.value < 10 ^ 18
    = place_small _ c.args.first c.loop-i.i 18 c.args.from c.args.bytes.now c.loop-i.invariant.value c.requires.digit.0 c.requires.digit.1
    c.loop-i.invariant.digits c.loop-i.invariant.within (omega arith) in
    let high = c.in-Some.ensures.1.1 in
    let digit = c.in-Some.ensures.2 in
    omega (arith, high, digit)

pub loop-i-preserved : goal.loop-i-preserved
loop-i-preserved c =
    let next = c.in-Some.ensures.0 in record {
      within = omega (arith, next);
      digits = place_digits c.loop-i.i c.args.from c.args.bytes.now c.loop-i.invariant.within c.loop-i.invariant.digits c.in-Some.ensures.1;
      value = place_more _ c.args.first _ c.loop-i.i c.args.from c.args.bytes.now c.loop-i.invariant.value c.loop-i.invariant.within
          c.in-Some.ensures.1 c.in-Some.ensures.2;
    }

pub returns-in_default : goal.returns-in_default
returns-in_default c =
    let read = place_read c.loop-i.value c.args.first c.loop-i.i c.args.from c.args.bytes.now c.requires.digit.0 c.requires.digit.1
    c.loop-i.invariant.digits c.loop-i.invariant.value c.loop-i.invariant.within (omega arith) in
    let small = place_small c.loop-i.value c.args.first c.loop-i.i c.args.most c.args.from c.args.bytes.now c.loop-i.invariant.value c.requires.digit.0 c.requires.digit.1
    c.loop-i.invariant.digits c.loop-i.invariant.within (omega arith) in
    (c.loop-i.invariant.within, read.0, small, read.1)
