-- The value of a term of each sort.
use Rattle.std.proofs.Common.{◌≡◌, ◌++◌, inl, inr, ℕ, Bool, true, false, List, [], ◌∷◌, map, flat_map, cond, Option, Some, None, refl, sym, ap, ◌∙◌, subst}
use Rattle.std.specs.List.{AllByRecursion}
use Rattle.std.specs.List.Sorted.{IsStrictlySortedBy}
use Rattle.std.specs.Map.{keys_of}
use Rattle.std.specs.Str.{bytes_eq}
use Rattle.std.proofs.lemmas.List.Folds.{flat_map-map}
use Rattle.std.proofs.lemmas.Slice.Eq.{bytes_eq-Decides}
use Rattle.sc_lists.specs.Members.{Has}
use Rattle.sc_names.specs.declared.uid.Uid.{Uid}
use Rattle.sc_names.specs.Uids.{text_cmp}
use Rattle.sc_values.specs.declared.value.Value.{Value}
use Rattle.sc_values.specs.declared.value.Value.TheVariants as value
use Rattle.sc_values.specs.Records.{Fields, field}
use Rattle.sc_sorts.specs.declared.sort.Sort.{Sort, Sort-F, roll-Sort, map-Sort, out-Sort, roll-out-Sort, fold-roll-Sort}
use Rattle.sc_sorts.specs.declared.sort.Sort.TheVariants as sort
use Rattle.sc_sorts.specs.declared.sort.Sort.TheVariants.{rolls-Bool, rolls-Long, rolls-String, rolls-Decimal, rolls-Ip, rolls-Entity, rolls-Set, rolls-Record, rolls-Option}
use Rattle.sc_sorts.specs.declared.sort.Sort.TheOpen as s
use Rattle.sc_sorts.specs.Defaults.{is_option, is_option_level}
use Rattle.sc_sorts.specs.Inside.{SortField, SortFields}
use Rattle.sc_bits.specs.Bits.{of_bits64}
use Rattle.sc_bits.specs.Addresses.{ip_of}
use Rattle.sc_terms.specs.Trees.{Tree}
use Rattle.sc_terms.specs.Folds.{present_term, held_term, field_term}
use Rattle.sc_terms.specs.Values.{Val, it, maybe, yes, value_in, field_of, set_from, field_seen}
use Rattle.sc_terms.proofs.RecordValues.{passes}
use Rattle.sc_term_laws.proofs.FitRecords.{all_apart, swapped}
use Rattle.sc_model_laws.specs.Assignments.{lit}
use Rattle.sc_model_laws.specs.Vals.{Model, bits_of, elements, held_by, val_step, val_of}

-- what a value is, as a record's field
abbrev pub entry : Val → Option Value
entry (it x) = Some x
entry (maybe o) = o

module _ (m : Model) where
  at_roll : (k : Sort) (y : Sort-F Sort) (x : Tree) → roll-Sort y ≡ k → val_of m k x ≡ val_step m (map-Sort Sort (Tree → Val) (val_of m) y) x
  unfolding val_of
  at_roll k y x e = ap (λ (j : Sort). val_of m j x) (sym e) ∙ ap (λ (f : Tree → Val). f x) (fold-roll-Sort (Tree → Val) (val_step m) y)

  pub val_out : (k : Sort) (x : Tree) → val_of m k x ≡ val_step m (map-Sort Sort (Tree → Val) (val_of m) (out-Sort k)) x
  val_out k x = at_roll k (out-Sort k) x (roll-out-Sort k)

  pub val_Bool : (x : Tree) → val_of m sort.Bool x ≡ yes (lit m.truths x)
  val_Bool x = at_roll sort.Bool s.Bool x rolls-Bool

  pub val_Long : (x : Tree) → val_of m sort.Long x ≡ it (value.Long (of_bits64 (bits_of m x)))
  val_Long x = at_roll sort.Long s.Long x rolls-Long

  pub val_String : (x : Tree) → val_of m sort.String x ≡ it (value.String (m.text x))
  val_String x = at_roll sort.String s.String x rolls-String

  pub val_Decimal : (x : Tree) → val_of m sort.Decimal x ≡ it (value.Decimal (of_bits64 (bits_of m x)))
  val_Decimal x = at_roll sort.Decimal s.Decimal x rolls-Decimal

  pub val_Ip : (x : Tree) → val_of m sort.Ip x ≡ it (value.Ip (ip_of (bits_of m x)))
  val_Ip x = at_roll sort.Ip s.Ip x rolls-Ip

  pub val_Entity : (name : List ℕ) (us : List Uid) (x : Tree) → val_of m (sort.Entity name us) x ≡ it (value.Entity (m.uid x))
  val_Entity name us x = at_roll (sort.Entity name us) (s.Entity name us) x (rolls-Entity name us)

  pub val_Set : (k : Sort) (x : Tree) → val_of m (sort.Set k) x ≡ it (value.Set (set_from (map (λ y. value_in (val_of m k y)) (elements m x))))
  val_Set k x = at_roll (sort.Set k) (s.Set k) x (rolls-Set k)

  pub val_Option : (k : Sort) (x : Tree) → val_of m (sort.Option k) x ≡ held_by (lit m.truths (present_term x)) (val_of m k (held_term x))
  val_Option k x = at_roll (sort.Option k) (s.Option k) x (rolls-Option k)

  -- the fields of a record
  abbrev pub fields_at : SortFields → Tree → Fields
  fields_at fs x = flat_map (λ (f : SortField). field_of (f.0, val_of m f.1 (field_term f.0 x))) fs

  abbrev seen_fields : Tree → List ℕ × (Tree → Val) → Fields
  seen_fields x f = field_of (f.0, f.1 (field_term f.0 x))

  pub val_Record : (fs : SortFields) (x : Tree) → val_of m (sort.Record fs) x ≡ it (value.Record (fields_at fs x))
  val_Record fs x =
      at_roll (sort.Record fs) (s.Record fs) x (rolls-Record fs)
      ∙ ap (λ (r : Fields). it (value.Record r)) (flat_map-map (seen_fields x) (λ (f : SortField). (f.0, val_of m f.1)) fs)

  -- ---- a value is an option where its sort is one of options

  shown_by : (y : Sort-F Sort) (k : Sort) (x : Tree) (v : Val) → v ≡ val_step m (map-Sort Sort (Tree → Val) (val_of m) y) x
      → field_seen (is_option_level Sort y) k (entry v) ≡ v
  shown_by s.Bool k x v e = rw e refl
  shown_by s.Long k x v e = rw e refl
  shown_by s.String k x v e = rw e refl
  shown_by s.Decimal k x v e = rw e refl
  shown_by s.Ip k x v e = rw e refl
  shown_by (s.Entity name us) k x v e = rw e refl
  shown_by (s.Set j) k x v e = rw e refl
  shown_by (s.Record fs) k x v e = rw e refl
  shown_by (s.Option j) k x v e = option (lit m.truths (present_term x)) v e where
    option : (b : Bool) (v : Val) → v ≡ held_by b (val_of m j (held_term x)) → field_seen true k (entry v) ≡ v
    option true v e = rw e refl
    option false v e = rw e refl

  pub shown : (k : Sort) (x : Tree) → field_seen (is_option k) k (entry (val_of m k x)) ≡ val_of m k x
  shown k x = shown_by (out-Sort k) k x (val_of m k x) (val_out k x)

  it_by : (y : Sort-F Sort) (x : Tree) (v : Val) → is_option_level Sort y ≡ false → v ≡ val_step m (map-Sort Sort (Tree → Val) (val_of m) y) x
      → v ≡ it (value_in v)
  it_by s.Bool x v n e = rw e refl
  it_by s.Long x v n e = rw e refl
  it_by s.String x v n e = rw e refl
  it_by s.Decimal x v n e = rw e refl
  it_by s.Ip x v n e = rw e refl
  it_by (s.Entity name us) x v n e = rw e refl
  it_by (s.Set j) x v n e = rw e refl
  it_by (s.Record fs) x v n e = rw e refl
  it_by (s.Option j) x v n e = absurd cc

  pub is_it : (k : Sort) (x : Tree) → is_option k ≡ false → val_of m k x ≡ it (value_in (val_of m k x))
  is_it k x n = it_by (out-Sort k) x (val_of m k x) n (val_out k x)

-- ---- the fields of a record by their names

found_by : (name : List ℕ) (v : Val) (fs : Fields) → field name fs ≡ None → field name (field_of (name, v) ++ fs) ≡ entry v
found_by name (it x) fs e = ap (λ (b : Bool). cond b (Some x) (field name fs)) ((bytes_eq-Decides name name).1 refl)
found_by name (maybe (Some x)) fs e = ap (λ (b : Bool). cond b (Some x) (field name fs)) ((bytes_eq-Decides name name).1 refl)
found_by name (maybe None) fs e = e

module _ (h : SortField → Val) where
  -- a name that isn't among them
  pub no_field : (name : List ℕ) (fs : SortFields) → AllByRecursion (λ (n : List ℕ). bytes_eq name n ≡ false) (keys_of fs)
      → field name (flat_map (λ (f : SortField). field_of (f.0, h f)) fs) ≡ None
  no_field name [] a = refl
  no_field name (f ∷ fs) a =
      passes name f.0 (h f) (flat_map (λ (f : SortField). field_of (f.0, h f)) fs) a.0 ∙ no_field name fs a.1

  differs_at : (g : SortField) (fs : SortFields) (f : SortField) → AllByRecursion (λ (n : List ℕ). bytes_eq n g.0 ≡ false) (keys_of fs) → Has fs f → bytes_eq f.0 g.0 ≡ false
  differs_at g [] f a there = absurd there
  differs_at g (e ∷ fs) f a (inl is) = ap (λ (z : SortField). bytes_eq z.0 g.0) (sym is) ∙ a.0
  differs_at g (e ∷ fs) f a (inr later) = differs_at g fs f a.1 later

  pub field_found : (fs : SortFields) (f : SortField) → IsStrictlySortedBy text_cmp (keys_of fs) → Has fs f
      → field f.0 (flat_map (λ (f : SortField). field_of (f.0, h f)) fs) ≡ entry (h f)
  unfolding IsStrictlySortedBy
  field_found [] f a there = absurd there
  field_found (g ∷ fs) f a (inl is) =
      let rest = no_field g.0 fs (swapped g.0 (keys_of fs) (all_apart g.0 (keys_of fs) a.0)) in
      let one = found_by g.0 (h g) (flat_map (λ (f : SortField). field_of (f.0, h f)) fs) rest in
      subst (λ (z : SortField). field z.0 (flat_map (λ (f : SortField). field_of (f.0, h f)) (g ∷ fs)) ≡ entry (h z)) is one
  field_found (g ∷ fs) f a (inr later) =
      passes f.0 g.0 (h g) (flat_map (λ (f : SortField). field_of (f.0, h f)) fs) (differs_at g fs f (all_apart g.0 (keys_of fs) a.0) later)
      ∙ field_found fs f a.1 later
