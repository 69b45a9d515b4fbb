-- The value that a model gives a term of each sort, and what it shows.
use Rattle.std.proofs.Common.{◌≡◌, ◌+◌, ◌++◌, ℕ, zero, suc, Bool, true, false, List, [], ◌∷◌, map, flat_map, take, slice_get, Some, None, refl, sym, ap, ◌∙◌, arith}
use Rattle.std.proofs.lemmas.List.{append-nil, append_assoc}
use Rattle.sc_lists.proofs.MemberLaws.{Has-from_Contains, Contains-from_Has}
use Rattle.sc_clauses.specs.Assignments.{Assignment}
use Rattle.sc_names.specs.declared.uid.Uid.{Uid}
use Rattle.sc_values.specs.declared.value.Value.{Value}
use Rattle.sc_values.specs.declared.value.Value.TheVariants as value
use Rattle.sc_values.specs.Records.{Fields}
use Rattle.sc_values.specs.Sets.{IsSetOf}
use Rattle.sc_values.proofs.SetLaws.{one_set}
use Rattle.sc_sorts.specs.declared.sort.Sort.{Sort, Sort-F, map-Sort, out-Sort, roll-Sort, roll-out-Sort}
use Rattle.sc_sorts.specs.declared.sort.Sort.TheVariants as sort
use Rattle.sc_sorts.specs.declared.sort.Sort.TheVariants.{rolls-Option}
use Rattle.sc_sorts.specs.declared.sort.Sort.TheOpen as s
use Rattle.sc_sorts.specs.Inside.{SortField, SortFields}
use Rattle.sc_sorts.proofs.OutLaws.{out_Bool, out_Long, out_String, out_Decimal, out_Ip, out_Entity, out_Set, out_Option}
use Rattle.sc_bits.specs.Addresses.{ip_of}
use Rattle.sc_bits.specs.Bits.{of_bits64}
use Rattle.sc_rule_laws.proofs.MemberTruths.{has_set_from, set_from_has}
use Rattle.sc_term_laws.proofs.FitSets.{set_ascends}
use Rattle.sc_terms.specs.Trees.{Tree}
use Rattle.sc_terms.specs.Folds.{bit_term, field_term, held_term, present_term}
use Rattle.sc_terms.specs.Values.{Val, it, maybe, value_in, field_of, set_from}
use Rattle.sc_footprint.specs.Problems.{Posed}
use Rattle.sc_model_values.specs.Models.{model, name_in, truth_in}
use Rattle.sc_model_laws.proofs.SortedVals.{val_at, record_val}
use Rattle.sc_model_laws.specs.Assignments.{lit}
use Rattle.sc_model_laws.specs.Vals.{elements, val_of, val_step, held_by}
use Rattle.sc_model_values.specs.Values.{shown}

-- ---- a value of each sort

module _ (p : Posed) (m : Assignment) (names : List (List ℕ)) where
  abbrev in_model : Sort → Tree → Val
  in_model = val_of (model p m names)

  abbrev value_at : Sort → Tree → Value
  value_at k x = value_in (val_of (model p m names) k x)

  pub of_bool : (x : Tree) → value_at sort.Bool x ≡ value.Bool (lit (truth_in p m) x)
  unfolding model
  of_bool x = ap value_in (val_at (model p m names) sort.Bool s.Bool x out_Bool)

  pub of_long : (x : Tree) → value_at sort.Long x ≡ value.Long (of_bits64 (λ i. lit (truth_in p m) (bit_term x i)))
  unfolding model
  of_long x = ap value_in (val_at (model p m names) sort.Long s.Long x out_Long)

  pub of_string : (x : Tree) → value_at sort.String x ≡ value.String (name_in p names x)
  unfolding model
  of_string x = ap value_in (val_at (model p m names) sort.String s.String x out_String)

  pub of_decimal : (x : Tree) → value_at sort.Decimal x ≡ value.Decimal (of_bits64 (λ i. lit (truth_in p m) (bit_term x i)))
  unfolding model
  of_decimal x = ap value_in (val_at (model p m names) sort.Decimal s.Decimal x out_Decimal)

  pub of_ip : (x : Tree) → value_at sort.Ip x ≡ value.Ip (ip_of (λ i. lit (truth_in p m) (bit_term x i)))
  unfolding model
  of_ip x = ap value_in (val_at (model p m names) sort.Ip s.Ip x out_Ip)

  pub of_entity : (name : List ℕ) (us : List Uid) (x : Tree) → value_at (sort.Entity name us) x ≡ value.Entity ((model p m names).uid x)
  of_entity name us x = ap value_in (val_at (model p m names) (sort.Entity name us) (s.Entity name us) x (out_Entity name us))

  pub of_set : (k : Sort) (x : Tree) → value_at (sort.Set k) x ≡ value.Set (set_from (map (value_at k) (elements (model p m names) x)))
  of_set k x = ap value_in (val_at (model p m names) (sort.Set k) (s.Set k) x (out_Set k))

  pub of_record : (fs : SortFields) (x : Tree)
      → value_at (sort.Record fs) x ≡ value.Record (flat_map (λ (f : SortField). field_of (f.0, val_of (model p m names) f.1 (field_term f.0 x))) fs)
  of_record fs x = ap value_in (record_val (model p m names) fs x)

  held_false : (b : Bool) (v : Val) → value_in (held_by b v) ≡ value.Bool false
  held_false true v = refl
  held_false false v = refl

  pub of_option : (k : Sort) (x : Tree) → value_at (sort.Option k) x ≡ value.Bool false
  of_option k x =
      ap value_in (val_at (model p m names) (sort.Option k) (s.Option k) x (out_Option k))
      ∙ held_false (lit (model p m names).truths (present_term x)) (val_of (model p m names) k (held_term x))

  -- ---- the same, where the sort is that one

  at_sort : (k j : Sort) (x : Tree) (v u : Value) → k ≡ j → value_at j x ≡ u → v ≡ u → v ≡ value_at k x
  at_sort k j x v u e g h = h ∙ sym g ∙ sym (ap (λ (i : Sort). value_in (val_of (model p m names) i x)) e)

  pub bool_at : (k : Sort) (x : Tree) (b : Bool) → k ≡ sort.Bool → b ≡ lit (truth_in p m) x → value.Bool b ≡ value_at k x
  bool_at k x b e h = at_sort k sort.Bool x (value.Bool b) _ e (of_bool x) (ap value.Bool h)

  pub long_at : (k : Sort) (x : Tree) (v : Value) → k ≡ sort.Long → v ≡ value.Long (of_bits64 (λ i. lit (truth_in p m) (bit_term x i))) → v ≡ value_at k x
  long_at k x v e h = at_sort k sort.Long x v _ e (of_long x) h

  pub string_at : (k : Sort) (x : Tree) (v : Value) → k ≡ sort.String → v ≡ value.String (name_in p names x) → v ≡ value_at k x
  string_at k x v e h = at_sort k sort.String x v _ e (of_string x) h

  pub decimal_at : (k : Sort) (x : Tree) (v : Value) → k ≡ sort.Decimal → v ≡ value.Decimal (of_bits64 (λ i. lit (truth_in p m) (bit_term x i))) → v ≡ value_at k x
  decimal_at k x v e h = at_sort k sort.Decimal x v _ e (of_decimal x) h

  pub ip_at : (k : Sort) (x : Tree) (v : Value) → k ≡ sort.Ip → v ≡ value.Ip (ip_of (λ i. lit (truth_in p m) (bit_term x i))) → v ≡ value_at k x
  ip_at k x v e h = at_sort k sort.Ip x v _ e (of_ip x) h

  pub entity_at : (k : Sort) (x : Tree) (name : List ℕ) (us : List Uid) (v : Value) → k ≡ sort.Entity name us → v ≡ value.Entity ((model p m names).uid x) → v ≡ value_at k x
  entity_at k x name us v e h = at_sort k (sort.Entity name us) x v _ e (of_entity name us x) h

  pub set_at : (k : Sort) (x : Tree) (j : Sort) (vs : List Value) → k ≡ sort.Set j → vs ≡ set_from (map (value_at j) (elements (model p m names) x)) → value.Set vs ≡ value_at k x
  set_at k x j vs e h = at_sort k (sort.Set j) x (value.Set vs) _ e (of_set j x) (ap value.Set h)

  pub record_at : (k : Sort) (x : Tree) (fs : SortFields) (r : Fields) → k ≡ sort.Record fs
      → r ≡ flat_map (λ (f : SortField). field_of (f.0, val_of (model p m names) f.1 (field_term f.0 x))) fs → value.Record r ≡ value_at k x
  record_at k x fs r e h = at_sort k (sort.Record fs) x (value.Record r) _ e (of_record fs x) (ap value.Record h)

  pub option_at : (k : Sort) (x : Tree) (j : Sort) → k ≡ sort.Option j → value.Bool false ≡ value_at k x
  option_at k x j e = at_sort k (sort.Option j) x (value.Bool false) _ e (of_option j x) refl

  -- ---- what it shows

  shown_at : (y : Sort-F Sort) (x : Tree) (v : Val) → ((k : Sort) → y ≡ s.Option k → ⊥) → v ≡ val_step (model p m names) (map-Sort Sort (Tree → Val) (val_of (model p m names)) y) x
      → shown v ≡ Some (value_in v)
  shown_at s.Bool x v other e = rw e refl
  shown_at s.Long x v other e = rw e refl
  shown_at s.String x v other e = rw e refl
  shown_at s.Decimal x v other e = rw e refl
  shown_at s.Ip x v other e = rw e refl
  shown_at (s.Entity name us) x v other e = rw e refl
  shown_at (s.Set j) x v other e = rw e refl
  shown_at (s.Record fs) x v other e = rw e refl
  shown_at (s.Option j) x v other e = absurd (other j refl)

  pub shown_plain : (k : Sort) (x : Tree) → ((h : Sort) → k ≡ sort.Option h → ⊥) → Some (value_at k x) ≡ shown (val_of (model p m names) k x)
  shown_plain k x other =
      sym (shown_at (out-Sort k) x (val_of (model p m names) k x) (λ h e. other h (sym (roll-out-Sort k) ∙ ap roll-Sort e ∙ rolls-Option h)) (val_at (model p m names) k (out-Sort k) x refl))

  option_is : (k : Sort) (x : Tree) (b : Bool) → lit (truth_in p m) (present_term x) ≡ b → val_of (model p m names) (sort.Option k) x ≡ held_by b (val_of (model p m names) k (held_term x))
  unfolding model
  option_is k x b e =
      val_at (model p m names) (sort.Option k) (s.Option k) x (out_Option k) ∙ ap (λ (c : Bool). held_by c (val_of (model p m names) k (held_term x))) e

  pub shown_held : (k : Sort) (x y : Tree) → lit (truth_in p m) (present_term x) ≡ true → y ≡ held_term x → Some (value_at k y) ≡ shown (val_of (model p m names) (sort.Option k) x)
  shown_held k x y e is = ap (λ (z : Tree). Some (value_in (val_of (model p m names) k z))) is ∙ sym (ap shown (option_is k x true e))

  pub shown_absent : (k : Sort) (x : Tree) → lit (truth_in p m) (present_term x) ≡ false → None ≡ shown (val_of (model p m names) (sort.Option k) x)
  shown_absent k x e = sym (ap shown (option_is k x false e))

-- ---- sets and fields

pub set_is : (xs set : List Value) → IsSetOf xs set → set ≡ set_from xs
set_is xs set is = one_set xs set (set_from xs) is (record {
  ascending = set_ascends xs;
  just = λ x. (
    λ h. Contains-from_Has xs x (set_from_has xs x (Has-from_Contains (set_from xs) x h)),
    λ h. Contains-from_Has (set_from xs) x (has_set_from xs x (Has-from_Contains xs x h)),
  );
})

pub members_at : {X : Type 0} (f : Tree → X) (tree_at : ℕ → Tree) (ns : List ℕ) (ts : List Tree) → map tree_at ns ≡ ts → map (λ n. f (tree_at n)) ns ≡ map f ts
members_at f tree_at ns ts e = composed ns ∙ ap (map f) e
  where
    composed : (ms : List ℕ) → map (λ n. f (tree_at n)) ms ≡ map f (map tree_at ms)
    composed [] = refl
    composed (n ∷ ms) = ap (λ ys. f (tree_at n) ∷ ys) (composed ms)

pub field_some : (name : List ℕ) (v : Val) (x : Value) → Some x ≡ shown v → (name, x) ∷ [] ≡ field_of (name, v)
field_some name (it y) x e = let same : x ≡ y = cc in ap (λ (z : Value). (name, z) ∷ []) same
field_some name (maybe (Some y)) x e = let same : x ≡ y = cc in ap (λ (z : Value). (name, z) ∷ []) same
field_some name (maybe None) x e = absurd cc

pub field_none : (name : List ℕ) (v : Val) → None ≡ shown v → [] ≡ field_of (name, v)
field_none name (it y) e = absurd cc
field_none name (maybe (Some y)) e = absurd cc
field_none name (maybe None) e = refl

-- the set of the values of some terms
pub set_told : (f : Tree → Value) (tree_at : ℕ → Tree) (ys : List ℕ) (ts : List Tree) (vs set : List Value) → map tree_at ys ≡ ts → vs ≡ map (λ n. f (tree_at n)) ys → IsSetOf vs set → set ≡ set_from (map f ts)
set_told f tree_at ys ts vs set e g is = set_is vs set is ∙ ap set_from (g ∙ members_at f tree_at ys ts e)

-- one more field is put
pub one_more_field : (put : SortField → Fields) (fs : SortFields) (i : ℕ) (f : SortField) (old new more : Fields) → slice_get fs i ≡ Some f → old ≡ flat_map put (take i fs) → new ≡ old ++ more → more ≡ put f
    → new ≡ flat_map put (take (i + 1) fs)
one_more_field put fs i f old new more at e g h = g ∙ ap (λ (r : Fields). r ++ more) e ∙ ap (λ (r : Fields). flat_map put (take i fs) ++ r) h ∙ sym (further fs i at)
  where
    further : (gs : SortFields) (j : ℕ) → slice_get gs j ≡ Some f → flat_map put (take (j + 1) gs) ≡ flat_map put (take j gs) ++ put f
    further [] j k = absurd cc
    further (g ∷ gs) zero k = let same : g ≡ f = cc in append-nil (put g) ∙ ap put same
    further (g ∷ gs) (suc j) k =
        let next : suc j + 1 ≡ suc (j + 1) = omega arith in
        rw next (ap (λ (r : Fields). put g ++ r) (further gs j k) ∙ sym (append_assoc (put g) (flat_map put (take j gs)) (put f)))
