-- Records whose names ascend are one where they have one value at each name.
use Rattle.std.proofs.Common.{◌≡◌, ℕ, Bool, true, false, cond, List, [], ◌∷◌, Option, Some, None, refl, sym, ap, ◌∙◌}
use Rattle.std.specs.List.{AllByRecursion}
use Rattle.std.specs.List.Sorted.{IsStrictlySortedBy}
use Rattle.std.specs.Map.{keys_of}
use Rattle.std.specs.Ordering.{ordering_reverse}
use Rattle.std.specs.Str.{bytes_eq}
use Rattle.std.specs.declared.cmp.Ordering.{Ordering}
use Rattle.std.specs.declared.cmp.Ordering.TheVariants.{Less, Equal, Greater}
use Rattle.std.proofs.lemmas.Map.Lookups.{exact_bytes}
use Rattle.std.proofs.lemmas.Slice.Eq.{bytes_eq-Decides}
use Rattle.sc_names.proofs.UidLaws.{text_total}
use Rattle.sc_laws.proofs.OptionLaws.{same_some}
use Rattle.sc_lists.proofs.TextLaws.{bytes_eq_true}
use Rattle.sc_names.specs.Uids.{text_cmp}
use Rattle.sc_values.specs.declared.value.Value.{Value}
use Rattle.sc_values.specs.Records.{Fields, field}
use Rattle.sc_term_laws.proofs.FitRecords.{all_apart, swapped, absent_at}

found_here : (f : List ℕ × Value) (r : Fields) → field f.0 (f ∷ r) ≡ Some f.1
found_here f r = ap (λ (b : Bool). cond b (Some f.1) (field f.0 r)) ((bytes_eq-Decides f.0 f.0).1 refl)

found_later : (name : List ℕ) (f : List ℕ × Value) (r : Fields) → bytes_eq name f.0 ≡ false → field name (f ∷ r) ≡ field name r
found_later name f r e = ap (λ (b : Bool). cond b (Some f.1) (field name r)) e

-- names above a name
below_none : (name : List ℕ) (r : Fields) → AllByRecursion (λ (m : List ℕ). text_cmp name m ≡ Less) (keys_of r) → field name r ≡ None
below_none name r h = absent_at name r (swapped name (keys_of r) (all_apart name (keys_of r) h))

below_all : (k j : List ℕ) (names : List (List ℕ)) → text_cmp k j ≡ Less → AllByRecursion (λ (m : List ℕ). text_cmp j m ≡ Less) names → AllByRecursion (λ (m : List ℕ). text_cmp k m ≡ Less) names
below_all k j [] less h = tt
below_all k j (i ∷ names) less h = (text_total.trans k j i less h.0, below_all k j names less h.1)

some_or_none : (x : Value) (o : Option Value) → Some x ≡ o → o ≡ None → ⊥
some_or_none x None e f = absurd cc
some_or_none x (Some y) e f = absurd cc

-- the first name of one record isn't below all of the other
first_below : (f g : List ℕ × Value) (r s : Fields) → text_cmp f.0 g.0 ≡ Less → AllByRecursion (λ (m : List ℕ). text_cmp g.0 m ≡ Less) (keys_of s) → field f.0 (f ∷ r) ≡ field f.0 (g ∷ s) → ⊥
first_below f g r s less above e =
    some_or_none f.1 (field f.0 (g ∷ s)) (sym (found_here f r) ∙ e) (below_none f.0 (g ∷ s) (less, below_all f.0 g.0 (keys_of s) less above))

-- what is at each name of what comes after the first
later_by : (b : Bool) (f g : List ℕ × Value) (r s : Fields) (name : List ℕ) → bytes_eq name f.0 ≡ b → f.0 ≡ g.0 → field f.0 r ≡ None → field g.0 s ≡ None
    → field name (f ∷ r) ≡ field name (g ∷ s) → field name r ≡ field name s
later_by true f g r s name t same none other e =
    let here : name ≡ f.0 = bytes_eq_true name f.0 t in
    ap (λ (n : List ℕ). field n r) here ∙ none ∙ sym (ap (λ (n : List ℕ). field n s) (here ∙ same) ∙ other)
later_by false f g r s name t same none other e =
    sym (found_later name f r t) ∙ e ∙ found_later name g s (ap (bytes_eq name) (sym same) ∙ t)

one_by : (o : Ordering) (f g : List ℕ × Value) (r s : Fields) → text_cmp f.0 g.0 ≡ o → IsStrictlySortedBy text_cmp (keys_of (f ∷ r)) → IsStrictlySortedBy text_cmp (keys_of (g ∷ s))
    → ((name : List ℕ) → field name (f ∷ r) ≡ field name (g ∷ s)) → (((name : List ℕ) → field name r ≡ field name s) → r ≡ s) → ◌≡◌ {A = Fields} (f ∷ r) (g ∷ s)
unfolding IsStrictlySortedBy
one_by Less f g r s c a b h rest = absurd (first_below f g r s c b.0 (h f.0))
one_by Greater f g r s c a b h rest =
    absurd (first_below g f s r (text_total.antisymm g.0 f.0 ∙ ap ordering_reverse c) a.0 (sym (h g.0)))
one_by Equal f g r s c a b h rest =
    let same : f.0 ≡ g.0 = exact_bytes f.0 g.0 c in
    let value : f.1 ≡ g.1 = same_some (sym (found_here f r) ∙ h f.0 ∙ ap (λ (n : List ℕ). field n (g ∷ s)) same ∙ found_here g s) in
    let later : r ≡ s = rest (λ name. later_by (bytes_eq name f.0) f g r s name refl same (below_none f.0 r a.0) (below_none g.0 s b.0) (h name)) in
    λ i. (same i, value i) ∷ later i

pub one_record : (r s : Fields) → IsStrictlySortedBy text_cmp (keys_of r) → IsStrictlySortedBy text_cmp (keys_of s) → ((name : List ℕ) → field name r ≡ field name s) → r ≡ s
unfolding IsStrictlySortedBy
one_record [] [] a b h = refl
one_record [] (g ∷ s) a b h = absurd (some_or_none g.1 (field g.0 []) (sym (found_here g s) ∙ sym (h g.0)) refl)
one_record (f ∷ r) [] a b h = absurd (some_or_none f.1 (field f.0 []) (sym (found_here f r) ∙ h f.0) refl)
one_record (f ∷ r) (g ∷ s) a b h = one_by (text_cmp f.0 g.0) f g r s refl a b h (one_record r s a.1 b.1)
