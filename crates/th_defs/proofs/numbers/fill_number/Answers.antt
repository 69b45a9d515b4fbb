use Rattle.std.proofs.Common.{◌≡◌, ◌≤◌, ◌∙◌, ℕ, OnOk, sym, subst, arith}
use Rattle.std.proofs.lemmas.Bool.{true≢false}
use Rattle.sc_clauses.specs.Clauses.{Clause}
use Rattle.th_defs.proofs.WholeLaws.{all_items}
use Rattle.th_defs.proofs.NumberLaws.{left_start, some_number, left_more, read_here, none_left}
use Rattle.th_defs.proofs.numbers.fill_number.Goals as goal

pub loop-place-init : goal.loop-place-init
loop-place-init c =
    let whole = all_items c.problem_laws.ensures.terms _ c.laws.ensures in
    record { positive = some_number c.args.problem.now whole _ c.requires; counted = left_start c.args.problem.now _ }

pub returns-then-left-count : goal.returns-then-left-count
returns-then-left-count c =
    let whole = all_items c.problem_laws.ensures.terms _ c.laws.ensures in
    let few = subst (λ (m : ℕ). c.loop-place.left ≤ m) c.kept_count-count.ensures c.if-left-count.true in
    let here = read_here c.args.problem.now whole _ _ _ c.item_at-item.ensures.is c.item_count-place-end.ensures c.loop-place-test.true _ _ c.loop-place.invariant.positive few c.loop-place.invariant.counted in
    subst (λ (d : Clause). OnOk c.fill_kept.result (c.fill_kept.new.literals.items ≡ d)) (sym here) c.fill_kept.ensures

pub loop-place-preserved : goal.loop-place-preserved
loop-place-preserved c = record {
  positive = omega (arith, c.if-left-count.false);
  counted = left_more c.args.problem.now _ _ c.item_at-item.ensures.is _ _ _ c.kept_count-count.ensures c.if-left-count.false c.loop-place.invariant.counted;
}

pub unreachable-requires : goal.unreachable-requires
unreachable-requires c =
    let whole = all_items c.problem_laws.ensures.terms _ c.laws.ensures in
    let none = none_left c.args.problem.now whole _ _ c.item_count-place-end.ensures c.loop-place-test.false c.loop-place.auto.place-end _ _ c.loop-place.invariant.positive c.loop-place.invariant.counted in
    true≢false (sym c.requires ∙ none)
