-- What tells that two places are alike: it is a half of the rules, and its literals.
use Rattle.std.proofs.Common.{◌≡◌, ◌≢◌, ◌<◌, ◌+◌, ◌-◌, ◌==◌, ◌∙◌, ℕ, zero, suc, nat_lt, Bool, true, false, cond, List, [], ◌∷◌, length, get_or, Option, Some, None, option_map, IfSome, IsSomeAnd, if◌then◌else◌, refl, sym, ap, subst, arith}
use Rattle.sc_laws.proofs.NumberLaws.{suc_isnt_zero}
use Rattle.sc_clauses.specs.declared.lit.Lit.{Lit}
use Rattle.sc_clauses.specs.Clauses.{positive}
use Rattle.sc_sorts.specs.declared.sort.Sort.{Sort, Sort-F, out-Sort}
use Rattle.sc_sorts.specs.declared.sort.Sort.TheOpen as s
use Rattle.sc_terms.specs.Trees.{Tree}
use Rattle.sc_terms.specs.TreeSorts.{tree_sort}
use Rattle.sc_terms.specs.Tables.{tree}
use Rattle.sc_terms.specs.Folds.{bit_term, equal_term}
use Rattle.sc_footprint.specs.Problems.{Posed, literal_in, numbered, term_of}
use Rattle.sc_rule_instances.specs.Clauses.{clause_for, literal_for, said_clause}
use Rattle.sc_rule_instances.specs.Saying.{count_of, literal_of}
use Rattle.sc_rule_laws.specs.Places.{half, half_by}
use Rattle.sc_rule_laws.specs.Signed.{Signed, Said, so, unless}
use Rattle.th_entities_instances.specs.Alike.{IsAlike, IsAlikeIf, IsHalfIn, IsNoLiteral, alike_parts, bit_below, half_at, half_parts, half_size, only, told}
use Rattle.th_entities_instances.specs.declared.alike.Measure.{Measure}
use Rattle.th_entities_instances.specs.declared.alike.Measure.TheVariants.{Truth, Presence, Bit, Member}
use Rattle.th_entities_instances.specs.declared.alike.Half.{Half}
use Rattle.th_entities_instances.specs.declared.alike.Half.TheVariants.{Equation, Told}
use Rattle.th_entities_instances.specs.declared.alike.Alike.{Alike}

module _ (p : Posed) where
  -- ---- halves

  module _ (x y : Tree) where
    abbrev parts_if : Option Half → Said
    parts_if o = option_map (λ (h : Half). half_parts p h x y) o

    not_only : (i : ℕ) (h : Half) → None ≡ parts_if (only (suc i) h)
    not_only i h = sym (ap (λ (b : Bool). parts_if (cond b (Some h) None)) (suc_isnt_zero i))

    bit_said : (count i : ℕ) → (if nat_lt i count then Some (unless (bit_term x i) ∷ so (bit_term y i) ∷ []) else None) ≡ parts_if (bit_below count i)
    bit_said count i = by (nat_lt i count)
      where
        by : (b : Bool) → (if b then Some (unless (bit_term x i) ∷ so (bit_term y i) ∷ []) else None) ≡ parts_if (if b then Some (Told (Bit i)) else None)
        by true = refl
        by false = refl

    half_is : (k : Sort-F Sort) (i : ℕ) (z : Option ℕ) → half_by k x y i (option_map (tree p.nodes) z) ≡ parts_if (half_at k i z)
    half_is s.Bool zero z = refl
    half_is s.Bool (suc i) z = not_only i (Told Truth)
    half_is s.String zero z = refl
    half_is s.String (suc i) z = not_only i Equation
    half_is (s.Entity name us) zero z = refl
    half_is (s.Entity name us) (suc i) z = not_only i Equation
    half_is (s.Option held) zero z = refl
    half_is (s.Option held) (suc i) z = not_only i (Told Presence)
    half_is s.Long i z = bit_said 64 i
    half_is s.Decimal i z = bit_said 64 i
    half_is s.Ip i z = bit_said 257 i
    half_is (s.Set k) i (Some z) = refl
    half_is (s.Set k) i None = refl
    half_is (s.Record fields) i z = refl

  -- the candidate of a half is in the table
  kept_in : (t : Bool) (a b : Half) → IsHalfIn p a → cond t (Some a) None ≡ Some b → IsHalfIn p b
  kept_in true a b here e = let same : a ≡ b = cc in subst (IsHalfIn p) same here
  kept_in false a b here e = absurd cc

  half_in : (k : Sort-F Sort) (i : ℕ) (z : Option ℕ) (h : Half) → IfSome z (λ (n : ℕ). n < length p.nodes) → half_at k i z ≡ Some h → IsHalfIn p h
  half_in s.Bool i z h g e = kept_in (i == 0) (Told Truth) h tt e
  half_in s.String i z h g e = kept_in (i == 0) Equation h tt e
  half_in (s.Entity name us) i z h g e = kept_in (i == 0) Equation h tt e
  half_in (s.Option held) i z h g e = kept_in (i == 0) (Told Presence) h tt e
  half_in s.Long i z h g e = kept_in (nat_lt i 64) (Told (Bit i)) h tt e
  half_in s.Decimal i z h g e = kept_in (nat_lt i 64) (Told (Bit i)) h tt e
  half_in s.Ip i z h g e = kept_in (nat_lt i 257) (Told (Bit i)) h tt e
  half_in (s.Set k) i (Some z) h g e = let same : Told (Member z) ≡ h = cc in subst (IsHalfIn p) same g
  half_in (s.Set k) i None h g e = absurd cc
  half_in (s.Record fields) i z h g e = absurd cc

  -- ---- like places

  module _ (x y i : ℕ) (z : Option ℕ) (is : z ≡ numbered p.closed i) where
    says : (o : Option Half) → o ≡ half_at (out-Sort (tree_sort (tree p.nodes x))) i z → half (tree p.nodes x) (tree p.nodes y) i (term_of p i) ≡ parts_if (tree p.nodes x) (tree p.nodes y) o
    says o e =
        ap (λ (n : Option ℕ). half (tree p.nodes x) (tree p.nodes y) i (option_map (tree p.nodes) n)) (sym is)
        ∙ half_is (tree p.nodes x) (tree p.nodes y) (out-Sort (tree_sort (tree p.nodes x))) i z
        ∙ ap (parts_if (tree p.nodes x) (tree p.nodes y)) (sym e)

    pub alike_none : None ≡ half_at (out-Sort (tree_sort (tree p.nodes x))) i z → IsAlikeIf p x y i None
    alike_none e = says None e

    pub alike_some : (h : Half) → Some h ≡ half_at (out-Sort (tree_sort (tree p.nodes x))) i z → IfSome z (λ (n : ℕ). n < length p.nodes) → x < length p.nodes → y < length p.nodes → IsNoLiteral (tree p.nodes x)
        → IsNoLiteral (tree p.nodes y) → IsAlike p x y i (record { first = x; second = y; half = h })
    alike_some h e z_in x_in y_in x_other y_other = record {
      inside = record {
        first_in = x_in;
        second_in = y_in;
        first_other = x_other;
        second_other = y_other;
        half_in = half_in (out-Sort (tree_sort (tree p.nodes x))) i z h z_in (sym e);
      };
      says = says (Some h) e;
    }

  -- ---- how many literals

  parts_length : (h : Half) (x y : Tree) → length (half_parts p h x y) ≡ half_size h
  parts_length Equation x y = refl
  parts_length (Told m) x y = refl

  module _ (a : Alike) where
    size : length (alike_parts p a) ≡ half_size a.half
    size = parts_length a.half (tree p.nodes a.first) (tree p.nodes a.second)

    pub one_more : (s : Signed) (n : ℕ) → n ≡ half_size a.half → Some (n + 1) ≡ count_of (Some (s ∷ alike_parts p a))
    one_more s n e = let many = size in let same : n + 1 ≡ suc (length (alike_parts p a)) = omega (arith, e, many) in ap (λ (k : ℕ). Some k) same

    pub two_more : (s t : Signed) (n : ℕ) → n ≡ half_size a.half → Some (n + 2) ≡ count_of (Some (s ∷ t ∷ alike_parts p a))
    two_more s t n e = let many = size in let same : n + 2 ≡ suc (suc (length (alike_parts p a))) = omega (arith, e, many) in ap (λ (k : ℕ). Some k) same

    pub within_one : (s : Signed) (k : ℕ) → IsSomeAnd (count_of (Some (s ∷ alike_parts p a))) (λ n. k < n) → k ≢ 0 → k - 1 < half_size a.half
    within_one s k h some = let many = size in omega (arith, h, some, many)

    pub within_two : (s t : Signed) (k : ℕ) → IsSomeAnd (count_of (Some (s ∷ t ∷ alike_parts p a))) (λ n. k < n) → k ≢ 0 → k ≢ 1 → k - 2 < half_size a.half
    within_two s t k h some other = let many = size in omega (arith, h, some, other, many)

  -- ---- their literals

  module _ (k : ℕ) (l : Lit) where
    lone : (s : Signed) → k < 1 → l ≡ literal_for p s → l ≡ get_or (clause_for p (s ∷ [])) k (positive 0)
    lone s h e = by k h
      where
        by : (j : ℕ) → j < 1 → l ≡ get_or (clause_for p (s ∷ [])) j (positive 0)
        by zero g = e
        by (suc j) g = absurd (omega (arith, g))

    front : (s t : Signed) → k ≡ 0 → l ≡ literal_for p s → l ≡ get_or (clause_for p (s ∷ t ∷ [])) k (positive 0)
    front s t h e = subst (λ (j : ℕ). l ≡ get_or (clause_for p (s ∷ t ∷ [])) j (positive 0)) (sym h) e

    back : (s t : Signed) → k ≢ 0 → k < 2 → l ≡ literal_for p t → l ≡ get_or (clause_for p (s ∷ t ∷ [])) k (positive 0)
    back s t some h e = by k some h
      where
        by : (j : ℕ) → j ≢ 0 → j < 2 → l ≡ get_or (clause_for p (s ∷ t ∷ [])) j (positive 0)
        by zero o g = absurd (o refl)
        by (suc zero) o g = e
        by (suc (suc j)) o g = absurd (omega (arith, g))

    module _ (a : Alike) (h : Half) (is : a.half ≡ h) where
      at_half : l ≡ get_or (clause_for p (half_parts p h (tree p.nodes a.first) (tree p.nodes a.second))) k (positive 0) → l ≡ get_or (clause_for p (alike_parts p a)) k (positive 0)
      at_half e = e ∙ ap (λ (g : Half). get_or (clause_for p (half_parts p g (tree p.nodes a.first) (tree p.nodes a.second))) k (positive 0)) (sym is)

    pub equation_literal : (a : Alike) → a.half ≡ Equation → k < half_size a.half → l ≡ literal_in p (equal_term (tree p.nodes a.first) (tree p.nodes a.second)) → l ≡ get_or (clause_for p (alike_parts p a)) k (positive 0)
    equation_literal a is h e = at_half a Equation is (lone (so (equal_term (tree p.nodes a.first) (tree p.nodes a.second))) (subst (λ (g : Half). k < half_size g) is h) e)

    pub first_literal : (a : Alike) (m : Measure) → a.half ≡ Told m → k ≡ 0 → l ≡ literal_for p (unless (told p m (tree p.nodes a.first))) → l ≡ get_or (clause_for p (alike_parts p a)) k (positive 0)
    first_literal a m is h e = at_half a (Told m) is (front (unless (told p m (tree p.nodes a.first))) (so (told p m (tree p.nodes a.second))) h e)

    pub second_literal : (a : Alike) (m : Measure) → a.half ≡ Told m → k ≢ 0 → k < half_size a.half → l ≡ literal_in p (told p m (tree p.nodes a.second)) → l ≡ get_or (clause_for p (alike_parts p a)) k (positive 0)
    second_literal a m is some h e =
        at_half a (Told m) is (back (unless (told p m (tree p.nodes a.first))) (so (told p m (tree p.nodes a.second))) some (subst (λ (g : Half). k < half_size g) is h) e)

    -- behind one guard, and behind two
    pub guard : (s : Signed) (parts : List Signed) → k ≡ 0 → l ≡ literal_for p s → l ≡ literal_of p (Some (s ∷ parts)) k
    unfolding said_clause
    guard s parts h e = subst (λ (j : ℕ). l ≡ get_or (clause_for p (s ∷ parts)) j (positive 0)) (sym h) e

    pub behind_one : (s : Signed) (parts : List Signed) → k ≢ 0 → l ≡ get_or (clause_for p parts) (k - 1) (positive 0) → l ≡ literal_of p (Some (s ∷ parts)) k
    unfolding said_clause
    behind_one s parts some e = by k some e
      where
        by : (j : ℕ) → j ≢ 0 → l ≡ get_or (clause_for p parts) (j - 1) (positive 0) → l ≡ get_or (clause_for p (s ∷ parts)) j (positive 0)
        by zero o f = absurd (o refl)
        by (suc j) o f = let less : suc j - 1 ≡ j = omega arith in f ∙ ap (λ (i : ℕ). get_or (clause_for p parts) i (positive 0)) less

    pub second_guard : (s t : Signed) (parts : List Signed) → k ≡ 1 → l ≡ literal_for p t → l ≡ literal_of p (Some (s ∷ t ∷ parts)) k
    unfolding said_clause
    second_guard s t parts h e = subst (λ (j : ℕ). l ≡ get_or (clause_for p (s ∷ t ∷ parts)) j (positive 0)) (sym h) e

    pub behind_two : (s t : Signed) (parts : List Signed) → k ≢ 0 → k ≢ 1 → l ≡ get_or (clause_for p parts) (k - 2) (positive 0) → l ≡ literal_of p (Some (s ∷ t ∷ parts)) k
    unfolding said_clause
    behind_two s t parts some other e = by k some other e
      where
        by : (j : ℕ) → j ≢ 0 → j ≢ 1 → l ≡ get_or (clause_for p parts) (j - 2) (positive 0) → l ≡ get_or (clause_for p (s ∷ t ∷ parts)) j (positive 0)
        by zero o q f = absurd (o refl)
        by (suc zero) o q f = absurd (q refl)
        by (suc (suc j)) o q f = let less : suc (suc j) - 2 ≡ j = omega arith in f ∙ ap (λ (i : ℕ). get_or (clause_for p parts) i (positive 0)) less
