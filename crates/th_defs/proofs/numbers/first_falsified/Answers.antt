use Rattle.std.proofs.Common.{◌+◌, ◌∙◌, ℕ, length, sym, ap, arith}
use Rattle.th_defs.proofs.WholeLaws.{all_items}
use Rattle.th_defs.proofs.CountLaws.{few_clauses}
use Rattle.th_defs.proofs.NumberLaws.{upto_start, quiet_start, upto_more, quiet_item, fits_here, falsified_item, all_quiet}
use Rattle.th_defs.proofs.numbers.first_falsified.Goals as goal

pub loop-place-init : goal.loop-place-init
loop-place-init c = record { counted = sym (ap length (upto_start c.args.problem.now)); quiet = quiet_start c.args.problem.now _ }

pub overflow_add-result : goal.overflow_add-result
overflow_add-result c =
    let whole = all_items c.problem_laws.ensures.terms _ c.laws.ensures in
    let few = few_clauses c.problem_laws.ensures.terms _ c.laws.ensures in
    record { fits = fits_here c.args.problem.now whole _ _ _ c.item_at-item.ensures.is c.item_count-place-end.ensures c.loop-place-test.true _ _ c.loop-place.invariant.counted c.in-Some.ensures.1 few }

pub returns-in-Some : goal.returns-in-Some
returns-in-Some c =
    let whole = all_items c.problem_laws.ensures.terms _ c.laws.ensures in
    falsified_item c.args.problem.now whole _ _ _ c.item_at-item.ensures.is c.item_count-place-end.ensures c.loop-place-test.true _ _ _ c.loop-place.invariant.counted c.in-Some.ensures

pub overflow_add-before : goal.overflow_add-before
overflow_add-before c =
    let whole = all_items c.problem_laws.ensures.terms _ c.laws.ensures in
    let few = few_clauses c.problem_laws.ensures.terms _ c.laws.ensures in
    record { fits = fits_here c.args.problem.now whole _ _ _ c.item_at-item.ensures.is c.item_count-place-end.ensures c.loop-place-test.true _ _ c.loop-place.invariant.counted (omega (arith, c.kept_count-before.ensures)) few }

pub loop-place-preserved : goal.loop-place-preserved
loop-place-preserved c = record {
  counted = ap (λ (n : ℕ). n + c.kept_count-before.result) c.loop-place.invariant.counted ∙ sym (upto_more c.args.problem.now _ _ c.item_at-item.ensures.is _ c.kept_count-before.ensures);
  quiet = quiet_item c.args.problem.now _ _ c.item_at-item.ensures.is _ c.loop-place.invariant.quiet c.in_default.ensures;
}

pub returns : goal.returns
returns c =
    let whole = all_items c.problem_laws.ensures.terms _ c.laws.ensures in
    all_quiet c.args.problem.now whole _ _ c.item_count-place-end.ensures c.loop-place-test.false c.loop-place.auto.place-end _ c.loop-place.invariant.quiet
