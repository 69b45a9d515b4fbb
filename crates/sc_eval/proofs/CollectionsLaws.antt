-- What tests of values tell, and the fields of records that are written.
use Rattle.std.proofs.Common.{◌≡◌, ◌||◌, ◌↔◌, inl, inr, ℕ, List, [], ◌∷◌, ◌++◌, reverse, Bool, true, false, cond, Option, Some, None, is_some, IsTrue, Contains, fold, refl, sym, ap, subst, ◌∙◌}
use Rattle.std.specs.Option.{option_or}
use Rattle.std.specs.Str.{bytes_eq}
use Rattle.std.specs.BTreeMap.{is_at}
use Rattle.std.specs.Map.{keys_of, lookup}
use Rattle.std.specs.List.{list_any, list_all}
use Rattle.std.proofs.Math.Path.{fun_ext}
use Rattle.std.proofs.lemmas.Cmp.{nat_list_cmp_total, nat_list_eq_equiv}
use Rattle.std.proofs.lemmas.Map.Views.{Contains-keys_from_lookup, IsSome-lookup_from_Contains}
use Rattle.std.proofs.lemmas.Map.Text.{is_eq-slice_cmp}
use Rattle.std.proofs.lemmas.Slice.Eq.{bytes_eq-Decides}
use Rattle.std.proofs.lemmas.List.{reverse-append}
use Rattle.std.proofs.lemmas.Bool.{and_from, and_parts}
use Rattle.sc_lists.proofs.ListLaws.{contains_nothing, contains_split, contains_rest, contains_first}
use Rattle.sc_laws.proofs.BoolLaws.{same_truth}
use Rattle.sc_lists.proofs.OrderedLaws.{value_at-insert_entry, value_at-insert_entry_other}
use Rattle.sc_lists.specs.Ordered.{value_at}
use Rattle.sc_names.specs.Uids.{text_cmp}
use Rattle.sc_values.specs.declared.value.Value.{Value}
use Rattle.sc_values.specs.Records.{Fields, field}
use Rattle.sc_values.specs.Sets.{IsSubset, Meets}
use Rattle.sc_eval.specs.Collections.{is_same, is_member, with_field, fields_of}
use Rattle.sc_eval.specs.CollectionLaws.{is_same-decides, is_member-decides, any-decides}

-- ---- what tests tell

pub same_is : (r : Bool) (x y : Value) → (IsTrue r ↔ x ≡ y) → r ≡ is_same x y
same_is r x y h = same_truth r (is_same x y) h (is_same-decides x y)

pub member_is : (r : Bool) (members : List Value) (x : Value) → (IsTrue r ↔ Contains members x) → r ≡ is_member members x
member_is r members x h = same_truth r (is_member members x) h (is_member-decides members x)

all-decides : (s t : List Value) → IsTrue (list_all (is_member t) s) ↔ IsSubset s t
all-decides [] t = (λ h x has. absurd (contains_nothing x has), λ h. refl)
all-decides (y ∷ ys) t = (
  λ h x has.
      let parts = and_parts (is_member t y) (list_all (is_member t) ys) h in
      elim (contains_split y ys x has) [
        | inl here ↦ subst (Contains t) here ((is_member-decides t y).0 parts.0)
        | inr later ↦ (all-decides ys t).0 parts.1 x later
      ],
  λ h. and_from (is_member t y) (list_all (is_member t) ys) ((is_member-decides t y).1 (h y (contains_first y ys))) ((all-decides ys t).1 (λ x has. h x (contains_rest y ys x has))),
)

pub all_are : (r : Bool) (s t : List Value) → (IsTrue r ↔ IsSubset s t) → r ≡ list_all (is_member t) s
all_are r s t h = same_truth r (list_all (is_member t) s) h (all-decides s t)

pub any_is : (r : Bool) (s t : List Value) → (IsTrue r ↔ Meets s t) → r ≡ list_any (is_member t) s
any_is r s t h = same_truth r (list_any (is_member t) s) h (any-decides s t)

-- ---- records

lookup-append : (test : List ℕ → Bool) (xs ys : Fields) → lookup test (xs ++ ys) ≡ option_or (lookup test xs) (lookup test ys)
lookup-append test [] ys = refl
lookup-append test (x ∷ xs) ys = at (test x.0) (lookup-append test xs ys)
  where
    at : (b : Bool) → lookup test (xs ++ ys) ≡ option_or (lookup test xs) (lookup test ys)
        → cond b (Some x.1) (lookup test (xs ++ ys)) ≡ option_or (cond b (Some x.1) (lookup test xs)) (lookup test ys)
    at true h = refl
    at false h = h

or_else : (a b c : Option Value) → option_or a (option_or b c) ≡ option_or (option_or a b) c
or_else None b c = refl
or_else (Some x) b c = refl

-- a field that is put, before those that are there
with_field-field : (fields : Fields) (f : List ℕ × Value) (name : List ℕ) → field name (with_field fields f) ≡ option_or (field name (f ∷ [])) (field name fields)
with_field-field fields f name = at (bytes_eq name f.0) refl
  where
    same : (k : List ℕ) → is_at (text_cmp name) k ≡ bytes_eq name k
    same k = is_eq-slice_cmp name k

    by_order : (fs : Fields) → value_at text_cmp name fs ≡ field name fs
    by_order fs = ap (λ (test : List ℕ → Bool). lookup test fs) (fun_ext same)

    at : (b : Bool) → bytes_eq name f.0 ≡ b → field name (with_field fields f) ≡ option_or (cond b (Some f.1) None) (field name fields)
    at true is =
        ap (λ k. field k (with_field fields f)) ((bytes_eq-Decides name f.0).0 is)
        ∙ sym (ap (λ (test : List ℕ → Bool). lookup test (with_field fields f)) (fun_ext (λ k. is_eq-slice_cmp f.0 k)))
        ∙ value_at-insert_entry nat_list_cmp_total fields f.0 f.1
    at false is =
        sym (by_order (with_field fields f)) ∙ value_at-insert_entry_other nat_list_cmp_total fields f.0 f.1 name (same f.0 ∙ is) ∙ by_order fields

fold-field : (fields pairs : Fields) (name : List ℕ) → field name (fold with_field fields pairs) ≡ option_or (field name (reverse pairs)) (field name fields)
fold-field fields [] name = refl
fold-field fields (f ∷ fs) name =
    fold-field (with_field fields f) fs name
    ∙ ap (option_or (field name (reverse fs))) (with_field-field fields f name)
    ∙ or_else (field name (reverse fs)) (field name (f ∷ [])) (field name fields)
    ∙ ap (λ o. option_or o (field name fields)) (sym (ap (field name) (reverse-append (f ∷ []) fs) ∙ lookup-append (bytes_eq name) (reverse fs) (f ∷ [])))

or_none : (o : Option Value) → option_or o None ≡ o
or_none None = refl
or_none (Some x) = refl

-- each name has its last value
pub fields_of-field : (pairs : Fields) (name : List ℕ) → field name (fields_of pairs) ≡ field name (reverse pairs)
fields_of-field pairs name = fold-field [] pairs name ∙ or_none (field name (reverse pairs))

-- whether there is a field doesn't depend on the order
some_in-reverse : (pairs : Fields) (name : List ℕ) → is_some (field name (reverse pairs)) ≡ is_some (field name pairs)
some_in-reverse [] name = refl
some_in-reverse (f ∷ fs) name =
    ap is_some (ap (field name) (reverse-append (f ∷ []) fs) ∙ lookup-append (bytes_eq name) (reverse fs) (f ∷ []))
    ∙ behind (field name (reverse fs)) (bytes_eq name f.0)
    ∙ ap (λ b. bytes_eq name f.0 || b) (some_in-reverse fs name)
    ∙ sym (before (bytes_eq name f.0) (field name fs))
  where
    behind : (o : Option Value) (b : Bool) → is_some (option_or o (cond b (Some f.1) None)) ≡ (b || is_some o)
    behind None true = refl
    behind None false = refl
    behind (Some x) true = refl
    behind (Some x) false = refl

    before : (b : Bool) (o : Option Value) → is_some (cond b (Some f.1) o) ≡ (b || is_some o)
    before true o = refl
    before false o = refl

-- the names are those of the pairs
pub fields_of-names : (pairs : Fields) (name : List ℕ) → Contains (keys_of (fields_of pairs)) name ↔ Contains (keys_of pairs) name
fields_of-names pairs name = (
  λ has. Contains-keys_from_lookup exact name pairs (sym same ∙ IsSome-lookup_from_Contains nat_list_eq_equiv name (fields_of pairs) has),
  λ has. Contains-keys_from_lookup exact name (fields_of pairs) (same ∙ IsSome-lookup_from_Contains nat_list_eq_equiv name pairs has),
)
  where
    exact : (x y : List ℕ) → bytes_eq x y ≡ true → x ≡ y
    exact x y = (bytes_eq-Decides x y).0

    same : is_some (field name (fields_of pairs)) ≡ is_some (field name pairs)
    same = ap is_some (fields_of-field pairs name) ∙ some_in-reverse pairs name
