use Rattle.std.proofs.Common.{◌≤◌, ℕ, sym, subst, arith}
use Rattle.th_defs.proofs.WholeLaws.{all_items}
use Rattle.th_defs.proofs.NumberLaws.{left_start, not_zero, left_more, numbered_here, none_left}
use Rattle.th_defs.proofs.numbers.is_number.Goals as goal

pub loop-place-init : goal.loop-place-init
loop-place-init c = record { positive = not_zero _ c.if-number-eq0.false; counted = left_start c.args.problem.now _ }

pub returns-then-left-count : goal.returns-then-left-count
returns-then-left-count c =
    let whole = all_items c.problem_laws.ensures.terms _ c.laws.ensures in
    let few = subst (λ (m : ℕ). c.loop-place.left ≤ m) c.kept_count-count.ensures c.if-left-count.true in
    sym (numbered_here c.args.problem.now whole _ _ _ c.item_at.ensures.is c.item_count-place-end.ensures c.loop-place-test.true _ _ c.loop-place.invariant.positive few c.loop-place.invariant.counted)

pub loop-place-preserved : goal.loop-place-preserved
loop-place-preserved c = record {
  positive = omega (arith, c.if-left-count.false);
  counted = left_more c.args.problem.now _ _ c.item_at.ensures.is _ _ _ c.kept_count-count.ensures c.if-left-count.false c.loop-place.invariant.counted;
}

pub returns : goal.returns
returns c =
    let whole = all_items c.problem_laws.ensures.terms _ c.laws.ensures in
    sym (none_left c.args.problem.now whole _ _ c.item_count-place-end.ensures c.loop-place-test.false c.loop-place.auto.place-end _ _ c.loop-place.invariant.positive c.loop-place.invariant.counted)
