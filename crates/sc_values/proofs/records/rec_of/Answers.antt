use Rattle.std.proofs.Common.{◌∙◌, sym, ap, Some}
use Rattle.std.specs.Map.{keys_of}
use Rattle.sc_values.specs.Order.{value_cmp}
use Rattle.sc_values.specs.Repeats.{first_repeated}
use Rattle.sc_values.proofs.RecLaws.{rec_made, repeat_found}
use Rattle.sc_values.proofs.records.rec_of.Goals as goal

pub returns-in-Some-clause-err : goal.returns-in-Some-clause-err
unfolding value_cmp
returns-in-Some-clause-err c =
    let found = ap (λ fs. first_repeated (keys_of fs)) (sym c.as_slice.ensures.value) ∙ sym c.in-Some.ensures ∙ ap Some (sym c.in_ok-key.ensures) in
    repeat_found _ _ _ _ c.in_ok-fields.ensures c.in_ok-sort.ensures.permutation c.in_ok-sort.ensures.sorted found

pub returns-clause-ok : goal.returns-clause-ok
unfolding value_cmp
returns-clause-ok c =
    let none = ap (λ fs. first_repeated (keys_of fs)) (sym c.as_slice.ensures.value) ∙ sym c.in_default.ensures in
    rec_made _ _ _ _ c.in_ok-fields.ensures c.from_vec.ensures c.in_ok-sort.ensures.permutation c.in_ok-sort.ensures.sorted none
