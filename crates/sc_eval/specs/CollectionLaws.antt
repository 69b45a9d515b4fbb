-- Values that are one, members, and the sets and records that lists of values make.
use Rattle.std.proofs.Common.{◌≡◌, ◌||◌, ◌↔◌, inl, inr, List, [], ◌∷◌, ap, fold, IsTrue, Contains, sym, subst, ◌∙◌, refl}
use Rattle.std.specs.List.{list_any}
use Rattle.std.specs.List.Sorted.{IsStrictlySortedBy}
use Rattle.std.specs.Map.{keys_of}
use Rattle.std.specs.Ordering.{is_eq}
use Rattle.std.specs.BTreeSet.{insert_key}
use Rattle.std.proofs.lemmas.Cmp.{nat_list_cmp_total}
use Rattle.std.proofs.lemmas.Bool.{or_cases, or_left, or_right}
use Rattle.sc_laws.proofs.BoolLaws.{never, or_false, or_assoc}
use Rattle.sc_lists.proofs.ListLaws.{contains_nothing, contains_split, contains_rest, contains_first}
use Rattle.sc_lists.proofs.OrderingLaws.{is_eq_true}
use Rattle.sc_lists.proofs.OrderedLaws.{none_ascends, no_pair_ascends, is_in-insert_key, ascending-insert_key, ascending-insert_entry}
use Rattle.sc_names.specs.Uids.{text_cmp}
use Rattle.sc_values.specs.declared.value.Value.{Value}
use Rattle.sc_values.specs.declared.value.Value.TheVariants as value
use Rattle.sc_values.specs.Order.{value_cmp}
use Rattle.sc_values.specs.Records.{Fields}
use Rattle.sc_values.specs.Sets.{IsSetOf, Meets}
use Rattle.sc_values.proofs.OrderLaws.{value_cmp_total, value_cmp_level}
use Rattle.sc_values.proofs.SetLaws.{one_set}
use Rattle.sc_eval.specs.Collections.{is_same, is_member, members_of, set_value, with_field, fields_of}

-- ---- values that are one

pub is_same-decides : (x y : Value) → IsTrue (is_same x y) ↔ x ≡ y
is_same-decides x y = (
  λ t. (value_cmp_level x y).0 (is_eq_true (value_cmp x y) t),
  λ e. ap is_eq ((value_cmp_level x y).1 e),
)

-- ---- members

pub is_member-decides : (members : List Value) (x : Value) → IsTrue (is_member members x) ↔ Contains members x
is_member-decides [] x = (λ t. never (Contains [] x) (sym t), λ h. absurd (contains_nothing x h))
is_member-decides (y ∷ ys) x = (
  λ t. elim (or_cases (is_same x y) (is_member ys x) t) [
    | inl here ↦ subst (Contains (y ∷ ys)) (sym ((is_same-decides x y).0 here)) (contains_first y ys)
    | inr later ↦ contains_rest y ys x ((is_member-decides ys x).0 later)
  ],
  λ h. elim (contains_split y ys x h) [
    | inl here ↦ or_left (is_same x y) (is_member ys x) ((is_same-decides x y).1 (sym here))
    | inr later ↦ or_right (is_same x y) (is_member ys x) ((is_member-decides ys x).1 later)
  ],
)

pub any-decides : (s t : List Value) → IsTrue (list_any (is_member t) s) ↔ Meets s t
any-decides [] t = (λ h. never (Meets [] t) (sym h), λ h. absurd (contains_nothing h.0 h.1))
any-decides (y ∷ ys) t = (
  λ h. elim (or_cases (is_member t y) (list_any (is_member t) ys) h) [
    | inl here ↦ (y, contains_first y ys, (is_member-decides t y).0 here)
    | inr later ↦ let m = (any-decides ys t).0 later in (m.0, contains_rest y ys m.0 m.1, m.2)
  ],
  λ h. elim (contains_split y ys h.0 h.1) [
    | inl here ↦
        or_left (is_member t y) (list_any (is_member t) ys)
        ((is_member-decides t y).1 (subst (Contains t) (sym here) h.2))
    | inr later ↦
        or_right (is_member t y) (list_any (is_member t) ys) ((any-decides ys t).1 (h.0, later, h.2))
  ],
)

-- ---- sets

abbrev with_all : List Value → List Value → List Value
with_all set values = fold (insert_key value_cmp) set values

with_all-ascends : (set values : List Value) → IsStrictlySortedBy value_cmp set
    → IsStrictlySortedBy value_cmp (with_all set values)
with_all-ascends set [] h = h
with_all-ascends set (x ∷ xs) h =
    with_all-ascends (insert_key value_cmp set x) xs (ascending-insert_key value_cmp_total set x h)

is_member-with_all : (set values : List Value) (y : Value)
    → is_member (with_all set values) y ≡ (is_member set y || is_member values y)
is_member-with_all set [] y = sym (or_false (is_member set y))
is_member-with_all set (x ∷ xs) y =
    is_member-with_all (insert_key value_cmp set x) xs y
    ∙ ap (λ b. b || is_member xs y) (is_in-insert_key value_cmp_total set x y)
    ∙ or_assoc (is_member set y) (is_same y x) (is_member xs y)

-- what values make is the set of them
pub members_of-set : (values : List Value) → IsSetOf values (members_of values)
members_of-set values = record {
  ascending = with_all-ascends [] values (none_ascends value_cmp [] refl);
  just = λ x. (
    λ h. (is_member-decides values x).0
        (sym (is_member-with_all [] values x) ∙ (is_member-decides (members_of values) x).1 h),
    λ h. (is_member-decides (members_of values) x).0
        (is_member-with_all [] values x ∙ (is_member-decides values x).1 h),
  );
}

pub set_is : (values set : List Value) → IsSetOf values set → value.Set set ≡ set_value values
set_is values set h = ap value.Set (one_set values set (members_of values) h (members_of-set values))

-- ---- records

fold-ascends : (fields pairs : Fields) → IsStrictlySortedBy text_cmp (keys_of fields)
    → IsStrictlySortedBy text_cmp (keys_of (fold with_field fields pairs))
fold-ascends fields [] h = h
fold-ascends fields (f ∷ fs) h =
    fold-ascends (with_field fields f) fs (ascending-insert_entry nat_list_cmp_total fields f.0 f.1 h)

-- the fields of a record that is written ascend by name
pub fields_of-ascends : (pairs : Fields) → IsStrictlySortedBy text_cmp (keys_of (fields_of pairs))
fields_of-ascends pairs = fold-ascends [] pairs (no_pair_ascends {V = Value} text_cmp [] refl)
