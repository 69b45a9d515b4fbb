use Rattle.std.proofs.Common.{arith}
use Rattle.th_strings.proofs.TextLaws.{none_text, all_texts}
use Rattle.th_strings.proofs.texts.text_numbers.Goals as goal

pub loop-place-init : goal.loop-place-init
loop-place-init c = rw c.new-numbers.ensures.items (none_text c.args.problem.now)

pub returns : goal.returns
returns c = all_texts c.args.problem.now c.loop-place.place _ c.loop-place.invariant (omega (arith, c.loop-place-test.false, c.closed_count-place-end.ensures.value)) (omega (arith, c.loop-place.auto.place-end, c.closed_count-place-end.ensures.value))
