-- What a set has, and that it is one list.
use Rattle.std.proofs.Common.{◌≡◌, ◌↔◌, List, [], Bool, IsTrue, sym, ap, subst, ◌∙◌}
use Rattle.std.specs.List.Retain.{IsFiltered, DiffersFromLast}
use Rattle.std.specs.List.Sorted.{IsSorted, IsPermutation}
use Rattle.std.specs.declared.cmp.Ordering.{Ordering}
use Rattle.std.specs.Ordering.{is_eq, eq_by_cmp}
use Rattle.sc_lists.proofs.OrderingLaws.{is_eq_true}
use Rattle.sc_values.specs.declared.value.Value.{Value}
use Rattle.sc_values.specs.contracts.value.ValueOrd.TheImpl.{ghosts as order}
use Rattle.sc_values.specs.contracts.value.ValueOrd.TheImpl.Laws.{matches_eq-law}
use Rattle.sc_values.specs.contracts.value.ValuePartialEq.TheImpl.{ghosts}
use Rattle.sc_values.specs.contracts.value.ValueEq.TheImpl.Laws.{laws-law}
use Rattle.sc_values.specs.Order.{value_cmp}
use Rattle.sc_values.specs.Sets.{IsSetOf}
use Rattle.sc_values.proofs.AscendingLaws.{one_list, ascending_made, members_made}
use Rattle.sc_values.proofs.OrderLaws.{value_cmp_total, value_cmp_exact, value_cmp_level}

-- values that are level are one
pub one_value : (r : Bool) (o : Ordering) (a b : Value) → r ≡ is_eq o → o ≡ value_cmp a b → IsTrue r ↔ a ≡ b
one_value r o a b is level = (
  λ h. (value_cmp_level a b).0 (sym level ∙ is_eq_true o (sym is ∙ h)),
  λ same. is ∙ ap is_eq (level ∙ (value_cmp_level a b).1 same),
)

ties : (a b : Value) → ghosts.eq a b ≡ eq_by_cmp value_cmp a b
unfolding value_cmp
ties a b = matches_eq-law a b

-- sorting copies and dropping repeats makes the set
pub set_made : (members xs ys zs set : List Value) → xs ≡ members → set ≡ zs → IsPermutation xs ys → IsSorted order.cmp ys → IsFiltered (DiffersFromLast ghosts.eq) [] ys zs → IsSetOf members set
unfolding value_cmp
set_made members xs ys zs set copied is permutation sorted filtered =
    let made : IsSetOf xs zs = record {
      ascending = ascending_made value_cmp_total value_cmp_exact laws-law ties ys zs sorted filtered;
      just = members_made value_cmp_total value_cmp_exact laws-law ties xs ys zs permutation filtered;
    } in
    subst (IsSetOf members) (sym is) (subst (λ (l : List Value). IsSetOf l zs) copied made)

pub one_set : (members s t : List Value) → IsSetOf members s → IsSetOf members t → s ≡ t
one_set members s t a b = one_list value_cmp_total value_cmp_exact s t a.ascending b.ascending (λ x. (
  λ has. (b.just x).1 ((a.just x).0 has),
  λ has. (a.just x).1 ((b.just x).0 has),
))
