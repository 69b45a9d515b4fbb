-- Records of what fits the sorts of their fields.
use Rattle.std.proofs.Common.{cond, ◌≡◌, ◌&&◌, ◌||◌, ◌++◌, ℕ, List, [], ◌∷◌, Bool, true, false, Option, Some, None, refl, sym, ap, ◌∙◌}
use Rattle.std.specs.List.{AllByRecursion, flat_map, list_all, list_any}
use Rattle.std.specs.List.Sorted.{IsStrictlySortedBy}
use Rattle.std.specs.Map.{keys_of}
use Rattle.std.specs.Str.{bytes_eq, IsUtf8}
use Rattle.std.specs.Cmp.Derive.{both_true}
use Rattle.std.specs.declared.cmp.Ordering.TheVariants.{Less, Equal}
use Rattle.std.proofs.lemmas.Cmp.{tied_itself}
use Rattle.std.proofs.lemmas.Slice.Eq.{bytes_eq-Decides}
use Rattle.sc_terms.proofs.RecordValues.{passes as at_field}
use Rattle.sc_names.proofs.UidLaws.{text_total}
use Rattle.sc_laws.proofs.BoolLaws.{and_first, and_second}
use Rattle.sc_lists.proofs.TextLaws.{bytes_eq_true, bytes_eq_swap}
use Rattle.sc_names.specs.Uids.{text_cmp}
use Rattle.sc_schema.specs.Declarations.{Declarations}
use Rattle.sc_sorts.specs.declared.sort.Sort.{Sort}
use Rattle.sc_sorts.specs.declared.sort.Sort.TheVariants as sort
use Rattle.sc_sorts.specs.declared.sort.Sort.TheVariants.{rolls-Record}
use Rattle.sc_sorts.specs.declared.sort.Sort.TheOpen as s
use Rattle.sc_sorts.specs.Defaults.{is_option}
use Rattle.sc_sorts.specs.Inside.{SortField, SortFields, held_sort}
use Rattle.sc_sorts.proofs.OutLaws.{out_Record}
use Rattle.sc_values.specs.declared.value.Value.{Value}
use Rattle.sc_values.specs.declared.value.Value.TheVariants as value
use Rattle.sc_values.specs.Proper.{IsProper, IsProperLevel}
use Rattle.sc_values.specs.Records.{Fields, field}
use Rattle.sc_values.proofs.EveryLaws as every
use Rattle.sc_values.proofs.OutLaws as out
use Rattle.sc_world.specs.Stores.{Entities}
use Rattle.sc_terms.specs.Values.{Val, it, maybe, field_of}
use Rattle.sc_term_laws.specs.Fitting.{Seen, passes, is_record_of, fits, IsOfSort, NamesKnown, NamesKnownLevel, Fits, as_value, as_option}
use Rattle.sc_term_laws.specs.LawfulSorts.{AreNames}
use Rattle.sc_term_laws.proofs.FitLaws as fit
use Rattle.sc_term_laws.proofs.FitLaws.{sights_of}
use Rattle.sc_term_laws.proofs.FitVals.{fits_at, at, no_option_at}
use Rattle.sc_term_laws.proofs.TestLaws.{option_sort}

-- ---- what a record has of a value

abbrev content : Val → Option Value
content (it x) = Some x
content (maybe o) = o

-- a value of an option sort is of the sort that it holds
pub fits_held : (k : Sort) (x : Value) → is_option k ≡ true → fits (held_sort k) x ≡ true → fits k x ≡ true
fits_held k x e h = by k (option_sort k e)
  where
    by : (j : Sort) → j ≡ sort.Option (held_sort k) → fits j x ≡ true
    by j same = sym (fit.seen_fits j x) ∙ ap (λ (z : Sort). (fit.seen z).1 x) same ∙ ap (λ (z : Seen). z.1 x) (fit.seen_Option (held_sort k)) ∙ h

pub holds_fit : (k : Sort) (x : Value) → is_option k ≡ true → fits k x ≡ true → fits (held_sort k) x ≡ true
holds_fit k x e h =
    sym (ap (λ (z : Seen). z.1 x) (fit.seen_Option (held_sort k))) ∙ sym (ap (λ (z : Sort). (fit.seen z).1 x) (option_sort k e)) ∙ fit.seen_fits k x ∙ h

-- ---- names that ascend

less_apart : (m n : List ℕ) → text_cmp m n ≡ Less → bytes_eq n m ≡ false
less_apart m n h = by (bytes_eq n m) refl
  where
    by : (b : Bool) → bytes_eq n m ≡ b → b ≡ false
    by true e =
        let same : n ≡ m = bytes_eq_true n m e in
        let level : text_cmp m n ≡ Equal = ap (text_cmp m) same ∙ tied_itself text_total m in
        let both : Less ≡ Equal = sym h ∙ level in cc
    by false e = refl

pub all_apart : (n : List ℕ) (names : List (List ℕ)) → AllByRecursion (λ (m : List ℕ). text_cmp n m ≡ Less) names → AllByRecursion (λ (m : List ℕ). bytes_eq m n ≡ false) names
all_apart n [] h = tt
all_apart n (m ∷ names) h = (less_apart n m h.0, all_apart n names h.1)

pub swapped : (n : List ℕ) (names : List (List ℕ)) → AllByRecursion (λ (m : List ℕ). bytes_eq m n ≡ false) names → AllByRecursion (λ (m : List ℕ). bytes_eq n m ≡ false) names
swapped n [] h = tt
swapped n (m ∷ names) h = (bytes_eq_swap n m ∙ h.0, swapped n names h.1)

-- ---- look-ups in what fields give

pub absent_at : (n : List ℕ) (r : Fields) → AllByRecursion (λ (m : List ℕ). bytes_eq n m ≡ false) (keys_of r) → field n r ≡ None
absent_at n [] h = refl
absent_at n (f ∷ r) h = ap (λ (b : Bool). cond b (Some f.1) (field n r)) h.0 ∙ absent_at n r h.1

first_field : (n : List ℕ) (v : Val) (later : Fields) → field n later ≡ None → field n (field_of (n, v) ++ later) ≡ content v
first_field n (it x) later e = ap (λ (b : Bool). cond b (Some x) (field n later)) ((bytes_eq-Decides n n).1 refl)
first_field n (maybe (Some x)) later e = ap (λ (b : Bool). cond b (Some x) (field n later)) ((bytes_eq-Decides n n).1 refl)
first_field n (maybe None) later e = e

module _ (d : Declarations) (es : Entities) where
  abbrev Of : Sort → Value → Type 0
  Of = IsOfSort d es

  abbrev FitsVal : Sort → Val → Type 0
  FitsVal = Fits d es

  -- values of fields, in the order of their sorts
  pub data HaveVals : SortFields → List (List ℕ × Val) → Type 0 where
    no_val : HaveVals [] []
    with_val : (name : List ℕ) (k : Sort) (v : Val) (fs : SortFields) (vs : List (List ℕ × Val)) → FitsVal k v → HaveVals fs vs → HaveVals ((name, k) ∷ fs) ((name, v) ∷ vs)

  passes_content : (k : Sort) (v : Val) → FitsVal k v → passes (fit.seen k) (content v) ≡ true
  passes_content k _ (as_value x none h) = fit.seen_fits k x ∙ h.of_sort
  passes_content k _ (as_option None some h) = fit.seen_option k ∙ some
  passes_content k _ (as_option (Some x) some h) = fit.seen_fits k x ∙ fits_held k x some h.of_sort

  -- what holds of each name holds of each that the record has
  names_each : (P : List ℕ → Type 0) (fs : SortFields) (vs : List (List ℕ × Val)) → HaveVals fs vs → AllByRecursion P (keys_of fs) → AllByRecursion P (keys_of (flat_map field_of vs))
  names_each P _ _ no_val h = tt
  names_each P _ _ (with_val name k (it x) fs vs g more) h = (h.0, names_each P fs vs more h.1)
  names_each P _ _ (with_val name k (maybe (Some x)) fs vs g more) h = (h.0, names_each P fs vs more h.1)
  names_each P _ _ (with_val name k (maybe None) fs vs g more) h = names_each P fs vs more h.1

  -- and of each value
  values_each : (P : Value → Type 0) → ((k : Sort) (x : Value) → Of k x → P x) → (fs : SortFields) (vs : List (List ℕ × Val)) → HaveVals fs vs → AllByRecursion (λ (f : List ℕ × Value). P f.1) (flat_map field_of vs)
  values_each P p _ _ no_val = tt
  values_each P p _ _ (with_val name k _ fs vs (as_value x none h) more) = (p k x h, values_each P p fs vs more)
  values_each P p _ _ (with_val name k _ fs vs (as_option (Some x) some h) more) = (p (held_sort k) x h, values_each P p fs vs more)
  values_each P p _ _ (with_val name k _ fs vs (as_option None some h) more) = values_each P p fs vs more

  ascend : (fs : SortFields) (vs : List (List ℕ × Val)) → HaveVals fs vs → IsStrictlySortedBy text_cmp (keys_of fs) → IsStrictlySortedBy text_cmp (keys_of (flat_map field_of vs))
  unfolding IsStrictlySortedBy
  ascend _ _ no_val h = tt
  ascend _ _ (with_val name k (it x) fs vs g more) h = (names_each (λ (m : List ℕ). text_cmp name m ≡ Less) fs vs more h.0, ascend fs vs more h.1)
  ascend _ _ (with_val name k (maybe (Some x)) fs vs g more) h = (names_each (λ (m : List ℕ). text_cmp name m ≡ Less) fs vs more h.0, ascend fs vs more h.1)
  ascend _ _ (with_val name k (maybe None) fs vs g more) h = ascend fs vs more h.1

  -- each field of the sort passes
  abbrev pass_in : Fields → SortFields → Bool
  pass_in r fs = list_all (λ (a : List ℕ × Seen). passes a.1 (field a.0 r)) (sights_of fs)

  past : (n : List ℕ) (v : Val) (r : Fields) (fs : SortFields) → AllByRecursion (λ (m : List ℕ). bytes_eq m n ≡ false) (keys_of fs) → pass_in (field_of (n, v) ++ r) fs ≡ pass_in r fs
  past n v r [] h = refl
  past n v r (f ∷ fs) h =
      let here : passes (fit.seen f.1) (field f.0 (field_of (n, v) ++ r)) ≡ passes (fit.seen f.1) (field f.0 r) = ap (passes (fit.seen f.1)) (at_field f.0 n v r h.0) in
      let rest = past n v r fs h.1 in
      λ i. here i && rest i

  all_pass : (fs : SortFields) (vs : List (List ℕ × Val)) → HaveVals fs vs → IsStrictlySortedBy text_cmp (keys_of fs) → pass_in (flat_map field_of vs) fs ≡ true
  unfolding IsStrictlySortedBy
  all_pass _ _ no_val h = refl
  all_pass _ _ (with_val name k v fs vs g more) h =
      let r = flat_map field_of vs in
      let apart = all_apart name (keys_of fs) h.0 in
      let none : field name r ≡ None = absent_at name r (names_each (λ (m : List ℕ). bytes_eq name m ≡ false) fs vs more (swapped name (keys_of fs) apart)) in
      both_true
      (ap (passes (fit.seen k)) (first_field name v r none) ∙ passes_content k v g)
      (past name v r fs apart ∙ all_pass fs vs more h.1)

  -- each field of the record is one of the sort
  abbrev known_in : SortFields → Fields → Bool
  known_in fs r = list_all (λ (f : List ℕ × Value). list_any (λ (a : List ℕ × Seen). bytes_eq f.0 a.0) (sights_of fs)) r

  or_second_true : (a b : Bool) → b ≡ true → (a || b) ≡ true
  or_second_true true b h = refl
  or_second_true false b h = h

  more_known : (f : SortField) (fs : SortFields) (r : Fields) → known_in fs r ≡ true → known_in (f ∷ fs) r ≡ true
  more_known f fs [] h = refl
  more_known f fs (x ∷ r) h =
      both_true (or_second_true (bytes_eq x.0 f.0) _ (and_first _ _ h))
      (more_known f fs r (and_second (list_any (λ (a : List ℕ × Seen). bytes_eq x.0 a.0) (sights_of fs)) _ h))

  first_known : (n : List ℕ) (k : Sort) (fs : SortFields) → list_any (λ (a : List ℕ × Seen). bytes_eq n a.0) (sights_of ((n, k) ∷ fs)) ≡ true
  first_known n k fs = ap (λ (b : Bool). b || list_any (λ (a : List ℕ × Seen). bytes_eq n a.0) (sights_of fs)) ((bytes_eq-Decides n n).1 refl)

  all_known : (fs : SortFields) (vs : List (List ℕ × Val)) → HaveVals fs vs → known_in fs (flat_map field_of vs) ≡ true
  all_known _ _ no_val = refl
  all_known _ _ (with_val name k (it x) fs vs g more) = both_true (first_known name k fs) (more_known (name, k) fs (flat_map field_of vs) (all_known fs vs more))
  all_known _ _ (with_val name k (maybe (Some x)) fs vs g more) = both_true (first_known name k fs) (more_known (name, k) fs (flat_map field_of vs) (all_known fs vs more))
  all_known _ _ (with_val name k (maybe None) fs vs g more) = more_known (name, k) fs (flat_map field_of vs) (all_known fs vs more)

  pub record_of : (fs : SortFields) (vs : List (List ℕ × Val)) → AreNames (keys_of fs) → HaveVals fs vs → Of (sort.Record fs) (value.Record (flat_map field_of vs))
  record_of fs vs names h =
      let r = flat_map field_of vs in
      record {
        of_sort = at (sort.Record fs) _ (fits_at (sort.Record fs) (s.Record fs) (rolls-Record fs)) (value.Record r)
            (ap (is_record_of (sights_of fs)) (out.out_Record r) ∙ both_true (all_pass fs vs h names.0) (all_known fs vs h));
        proper = every.every_Record IsProperLevel r (ascend fs vs h names.0, names_each IsUtf8 fs vs h names.1) (values_each IsProper (λ k x g. g.proper) fs vs h);
        named = every.every_Record (NamesKnownLevel d es) r tt (values_each (NamesKnown d es) (λ k x g. g.named) fs vs h);
      }

  pub record_fits : (fs : SortFields) (vs : List (List ℕ × Val)) → AreNames (keys_of fs) → HaveVals fs vs → FitsVal (sort.Record fs) (it (value.Record (flat_map field_of vs)))
  record_fits fs vs names h = as_value _ (no_option_at (sort.Record fs) (s.Record fs) (out_Record fs) refl) (record_of fs vs names h)
