-- What is inside a closed term: the fields of a record, what an option holds, the bits of a number or an address.
use Rattle.std.proofs.Common.{◌≡◌, ◌<◌, ◌+◌, ℕ, zero, suc, false, List, [], ◌∷◌, length, slice_get, Some, IsSome, is_some, Contains, option_map, refl, sym, ap, ◌∙◌, subst, arith}
use Rattle.std.proofs.lemmas.Option.{slice_get-map}
use Rattle.sc_lists.proofs.ListLaws.{contains_map, contains_place}
use Rattle.sc_lists.proofs.MemberLaws.{Has-from_Contains}
use Rattle.sc_laws.proofs.OptionLaws.{same_some}
use Rattle.sc_sorts.specs.declared.sort.Sort.{Sort, Sort-F, out-Sort}
use Rattle.sc_sorts.specs.declared.sort.Sort.TheVariants as sort
use Rattle.sc_sorts.specs.declared.sort.Sort.TheOpen as s
use Rattle.sc_sorts.specs.Inside.{SortField, SortFields}
use Rattle.sc_sorts.proofs.OutLaws.{out_Record, out_Option}
use Rattle.sc_terms.specs.Trees.{Tree}
use Rattle.sc_terms.specs.TreeSorts.{tree_sort}
use Rattle.sc_terms.specs.Tables.{tree}
use Rattle.sc_terms.specs.Folds.{field_term, present_term, held_term, bit_term}
use Rattle.sc_term_laws.specs.Judging.{IsTermOf}
use Rattle.sc_term_laws.proofs.DefaultMade.{held_made}
use Rattle.sc_term_laws.proofs.JudgingLaws.{sort_is}
use Rattle.sc_term_laws.proofs.MadeLaws.{field_made}
use Rattle.sc_term_definitions.specs.Definitions.{bits_in, bit_count, counted}
use Rattle.sc_footprint.specs.Atoms.{is_bool, is_bool_in}
use Rattle.sc_footprint.specs.Closure.{Closed, inside, inside_by, field_terms, bit_terms}
use Rattle.sc_footprint.proofs.SortLaws.{found, names_ascend}
use Rattle.sc_footprint.specs.Problems.{Posed, IsPosed, goal_term}
use Rattle.sc_footprint.specs.Theories.{ClosedAreTerms}
use Rattle.sc_rule_instances.proofs.FollowLaws.{field_place}
use Rattle.sc_model_values.specs.Parts.{IsOf}

-- ---- by the sort

module _ (x : Tree) (k : Sort) (l : Sort-F Sort) (e : tree_sort x ≡ k) (o : out-Sort k ≡ l) where
  inside_at : inside x ≡ inside_by l x
  inside_at = ap (λ (z : Sort-F Sort). inside_by z x) (ap out-Sort e ∙ o)

  some_at : (i : ℕ) → IsSome (slice_get (inside_by l x) i) → IsSome (slice_get (inside x) i)
  some_at i h = ap (λ (ts : List Tree). is_some (slice_get ts i)) inside_at ∙ h

  part_at : (i : ℕ) (t u : Tree) → slice_get (inside x) i ≡ Some t → slice_get (inside_by l x) i ≡ Some u → t ≡ u
  part_at i t u g h = same_some (sym g ∙ ap (λ (ts : List Tree). slice_get ts i) inside_at ∙ h)

  bool_at : is_bool x ≡ is_bool_in l
  bool_at = ap is_bool_in (ap out-Sort e ∙ o)

-- ---- options

module _ (x : Tree) (h : Sort) (e : tree_sort x ≡ sort.Option h) where
  pub option_plain : is_bool x ≡ false
  option_plain = bool_at x (sort.Option h) (s.Option h) e (out_Option h)

  pub present_there : IsSome (slice_get (inside x) 0)
  present_there = some_at x (sort.Option h) (s.Option h) e (out_Option h) 0 refl

  pub held_there : IsSome (slice_get (inside x) 1)
  held_there = some_at x (sort.Option h) (s.Option h) e (out_Option h) 1 refl

  pub present_is : (t : Tree) → slice_get (inside x) 0 ≡ Some t → t ≡ present_term x
  present_is t g = part_at x (sort.Option h) (s.Option h) e (out_Option h) 0 t (present_term x) g refl

  pub held_is : (t : Tree) → slice_get (inside x) 1 ≡ Some t → t ≡ held_term x
  held_is t g = part_at x (sort.Option h) (s.Option h) e (out_Option h) 1 t (held_term x) g refl

-- ---- records

fields_some : (fs : SortFields) (x : Tree) (i : ℕ) → i < length fs → IsSome (slice_get (field_terms fs x) i)
fields_some [] x i h = absurd (omega (arith, h))
fields_some (f ∷ fs) x zero h = refl
fields_some (f ∷ fs) x (suc i) h = fields_some fs x i (omega (arith, h))

module _ (x : Tree) (fs : SortFields) (e : tree_sort x ≡ sort.Record fs) where
  pub record_plain : is_bool x ≡ false
  record_plain = bool_at x (sort.Record fs) (s.Record fs) e (out_Record fs)

  pub field_there : (i : ℕ) → i < length fs → IsSome (slice_get (inside x) i)
  field_there i h = some_at x (sort.Record fs) (s.Record fs) e (out_Record fs) i (fields_some fs x i h)

  pub field_is : (i : ℕ) (f : SortField) (t : Tree) → slice_get fs i ≡ Some f → slice_get (inside x) i ≡ Some t → t ≡ field_term f.0 x
  field_is i f t h g = part_at x (sort.Record fs) (s.Record fs) e (out_Record fs) i t (field_term f.0 x) g (field_place fs x i f h)

-- ---- bits

counted_at : (from n i : ℕ) → i < n → slice_get (counted from n) i ≡ Some (from + i)
unfolding counted
counted_at from zero i h = absurd (omega (arith, h))
counted_at from (suc n) zero h = let same : from ≡ from + zero = omega arith in ap Some same
counted_at from (suc n) (suc i) h = let same : suc from + i ≡ from + suc i = omega arith in counted_at (suc from) n i (omega (arith, h)) ∙ ap Some same

by_bits : (l : Sort-F Sort) (x : Tree) (i : ℕ) → i < bits_in l → inside_by l x ≡ bit_terms (bits_in l) x
by_bits (s.Record fs) x i h = absurd (omega (arith, h))
by_bits (s.Option k) x i h = absurd (omega (arith, h))
by_bits _ x i h = refl

plain_bits : (l : Sort-F Sort) (i : ℕ) → i < bits_in l → is_bool_in l ≡ false
plain_bits s.Bool i h = absurd (omega (arith, h))
plain_bits _ i h = refl

module _ (x : Tree) (i : ℕ) (h : i < bit_count (tree_sort x)) where
  pub bits_plain : is_bool x ≡ false
  bits_plain = plain_bits (out-Sort (tree_sort x)) i h

  bit_at : slice_get (inside x) i ≡ Some (bit_term x i)
  bit_at =
      let same : 0 + i ≡ i = omega arith in
      ap (λ (ts : List Tree). slice_get ts i) (by_bits (out-Sort (tree_sort x)) x i h)
      ∙ slice_get-map (bit_term x) (counted 0 (bit_count (tree_sort x))) i
      ∙ ap (option_map (bit_term x)) (counted_at 0 (bit_count (tree_sort x)) i h ∙ ap Some same)

  pub bit_there : IsSome (slice_get (inside x) i)
  bit_there = ap is_some bit_at

  pub bit_is : (t : Tree) → slice_get (inside x) i ≡ Some t → t ≡ bit_term x i
  bit_is t g = same_some (sym g ∙ bit_at)

-- ---- the sorts of what is inside

module _ (terms : ClosedAreTerms) (p : Posed) (posed : IsPosed p) where
  pub closed_is : (n : ℕ) → Contains p.closed n → Closed p.schema p.env (goal_term p) (tree p.nodes n)
  closed_is n h = (posed.are_closed.just (tree p.nodes n)).0 (contains_map (tree p.nodes) p.closed n h)

  term_at : (k : Sort) (n : ℕ) → IsOf p k n → IsTermOf p.schema p.env p.literals k (tree p.nodes n)
  term_at k n h =
      subst (λ (j : Sort). IsTermOf p.schema p.env p.literals j (tree p.nodes n)) h.sorted
      (terms p.schema p.env p.literals (goal_term p) (tree p.nodes n) posed.lawful posed.goal_is (closed_is n h.closed))

  pub held_sorted : (k : Sort) (n : ℕ) → IsOf p (sort.Option k) n → tree_sort (held_term (tree p.nodes n)) ≡ k
  held_sorted k n h = sort_is p.schema p.env p.literals k (held_term (tree p.nodes n)) (held_made p.schema p.env p.literals k (tree p.nodes n) (term_at (sort.Option k) n h))

  pub held_of : (k : Sort) (n m : ℕ) → IsOf p (sort.Option k) n → Contains p.closed m → m < length p.nodes → slice_get (inside (tree p.nodes n)) 1 ≡ Some (tree p.nodes m) → IsOf p k m
  held_of k n m h closed within e = record {
    closed = closed;
    within = within;
    sorted = ap tree_sort (held_is (tree p.nodes n) k h.sorted (tree p.nodes m) e) ∙ held_sorted k n h;
  }

  field_sorted : (fs : SortFields) (n i : ℕ) (f : SortField) → IsOf p (sort.Record fs) n → slice_get fs i ≡ Some f → tree_sort (field_term f.0 (tree p.nodes n)) ≡ f.1
  field_sorted fs n i f h at =
      let is = term_at (sort.Record fs) n h in
      let ascend = names_ascend p.schema p.env p.literals posed.lawful posed.goal_is.environment posed.goal_is.declared fs (tree p.nodes n) is in
      sort_is p.schema p.env p.literals f.1 (field_term f.0 (tree p.nodes n))
      (field_made p.schema p.env p.literals fs f.0 f.1 (tree p.nodes n) is (found fs f ascend (Has-from_Contains fs f (contains_place fs i f at))))

  pub field_of : (fs : SortFields) (n m i : ℕ) → IsOf p (sort.Record fs) n → Contains p.closed m → m < length p.nodes → slice_get (inside (tree p.nodes n)) i ≡ Some (tree p.nodes m)
      → (f : SortField) → slice_get fs i ≡ Some f → IsOf p f.1 m × (tree p.nodes m ≡ field_term f.0 (tree p.nodes n))
  field_of fs n m i h closed within e f at =
      let is : tree p.nodes m ≡ field_term f.0 (tree p.nodes n) = field_is (tree p.nodes n) fs h.sorted i f (tree p.nodes m) at e in
      (record { closed = closed; within = within; sorted = ap tree_sort is ∙ field_sorted fs n i f h at }, is)
