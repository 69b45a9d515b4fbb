use Rattle.std.proofs.Common.{arith}
use Rattle.th_equal.proofs.NamedLaws.{all_named}
use Rattle.th_equal.proofs.named.named_numbers.Goals as goal

pub returns-clause-named : goal.returns-clause-named
returns-clause-named c = all_named c.args.problem.now c.loop-place.place _ c.loop-place.invariant (omega (arith, c.loop-place-test.false, c.closed_count-place-end.ensures.value))

pub returns-clause-few : goal.returns-clause-few
returns-clause-few c = omega (arith, c.loop-place.invariant.few, c.loop-place.auto.place-end, c.closed_count-place-end.ensures.value)
