-- The closed term at a place of a list of numbers, and what is known of it.
use Rattle.std.proofs.Common.{◌≡◌, ◌≢◌, ◌<◌, ◌==◌, ℕ, zero, suc, Bool, true, false, cond, List, [], ◌∷◌, map, length, slice_get, get_or, Option, Some, None, option_map, option_and_then, refl, sym, ap, ◌∙◌}
use Rattle.std.proofs.lemmas.Option.{slice_get-map, get_or_from_slice_get, slice_get_within}
use Rattle.sc_laws.proofs.NumberLaws.{nat_eq_true}
use Rattle.sc_laws.proofs.OptionLaws.{option_and_then_some, option_map_some}
use Rattle.sc_clauses.specs.Assignments.{Assignment}
use Rattle.sc_terms.specs.Folds.{equal_term}
use Rattle.sc_terms.specs.Tables.{tree}
use Rattle.sc_terms.specs.Trees.{Tree}
use Rattle.sc_footprint.specs.Problems.{Posed, literal_in, numbered, term_of}
use Rattle.sc_rule_instances.specs.Known.{known, known_equal, named_at, truth_of}
use Rattle.sc_rule_laws.specs.Strings.{Pattern, Signs}
use Rattle.th_strings.specs.Known.{like_known, row_at, row_of, sign_in, sign_by, sign_of}

-- a sign of a row, read in two ways
sign_reads : (r : Signs) (j : ℕ) → sign_in (slice_get r j) ≡ get_or r j None
sign_reads [] j = refl
sign_reads (a ∷ r) zero = refl
sign_reads (a ∷ r) (suc j) = sign_reads r j

module _ (p : Posed) (m : Assignment) where
  abbrev pub equal_known : Tree → Tree → Option Bool
  equal_known t u = known m (literal_in p (equal_term t u))

  -- a sign that is known is that of some pattern
  pub row_view : (qs : List Pattern) (t : Tree) (j : ℕ) (s : Bool) → get_or (row_at p m qs t) j None ≡ Some s → (q : Pattern) × (slice_get qs j ≡ Some q) × (like_known p m t q ≡ Some s)
  row_view [] t j s e = absurd cc
  row_view (q ∷ qs) t zero s e = (q, refl, e)
  row_view (q ∷ qs) t (suc j) s e = row_view qs t j s e

  pub row_is : (qs : List Pattern) (t : Tree) (j : ℕ) (q : Pattern) → slice_get qs j ≡ Some q → get_or (row_at p m qs t) j None ≡ like_known p m t q
  row_is qs t j q e = get_or_from_slice_get (row_at p m qs t) j (like_known p m t q) None (slice_get-map (like_known p m t) qs j ∙ ap (option_map (like_known p m t)) e)

  module _ (ns : List ℕ) where
    -- the number and the closed term at a place
    pub number_named : (i x : ℕ) → named_at p ns i ≡ Some x → (slice_get ns i ≡ Some (get_or ns i 0)) × (term_of p (get_or ns i 0) ≡ Some (tree p.nodes x)) × (i < length ns)
    number_named i x e =
        let (n, there, is) = option_and_then_some (λ (k : ℕ). numbered p.closed k) (slice_get ns i) x e in
        let same : get_or ns i 0 ≡ n = get_or_from_slice_get ns i n 0 there in
        (there ∙ ap Some (sym same), ap (term_of p) same ∙ ap (option_map (tree p.nodes)) is, slice_get_within ns i n there)

    pub named_place : (i n : ℕ) (t : Tree) → slice_get ns i ≡ Some n → term_of p n ≡ Some t → (x : ℕ) × (named_at p ns i ≡ Some x) × (tree p.nodes x ≡ t)
    named_place i n t there e =
        let (x, is, same) = option_map_some (tree p.nodes) (numbered p.closed n) t e in
        (x, ap (option_and_then (λ (k : ℕ). numbered p.closed k)) there ∙ is, same)

    pub truth_view : (i j : ℕ) (v : Bool) → truth_of p m ns i j ≡ Some v
        → (x : ℕ) × (y : ℕ) × (named_at p ns i ≡ Some x) × (named_at p ns j ≡ Some y) × (equal_known (tree p.nodes x) (tree p.nodes y) ≡ Some v)
    truth_view i j v = by (named_at p ns i) (named_at p ns j) refl refl
      where
        plain : (x y : ℕ) (b : Bool) → cond b None (equal_known (tree p.nodes x) (tree p.nodes y)) ≡ Some v → equal_known (tree p.nodes x) (tree p.nodes y) ≡ Some v
        plain x y true e = absurd cc
        plain x y false e = e

        by : (o q : Option ℕ) → named_at p ns i ≡ o → named_at p ns j ≡ q → known_equal p m o q ≡ Some v
            → (x : ℕ) × (y : ℕ) × (named_at p ns i ≡ Some x) × (named_at p ns j ≡ Some y) × (equal_known (tree p.nodes x) (tree p.nodes y) ≡ Some v)
        by (Some x) (Some y) e f h = (x, y, e, f, plain x y (x == y) h)
        by (Some x) None e f h = absurd cc
        by None q e f h = absurd cc

    pub truth_is : (i j x y : ℕ) (v : Bool) → named_at p ns i ≡ Some x → named_at p ns j ≡ Some y → x ≢ y → equal_known (tree p.nodes x) (tree p.nodes y) ≡ Some v → truth_of p m ns i j ≡ Some v
    truth_is i j x y v e f other h = ap (λ (o : Option ℕ). known_equal p m o (named_at p ns j)) e ∙ ap (known_equal p m (Some x)) f ∙ by (x == y) refl
      where
        by : (b : Bool) → (x == y) ≡ b → cond b None (equal_known (tree p.nodes x) (tree p.nodes y)) ≡ Some v
        by true g = absurd (other (nat_eq_true x y g))
        by false g = h

    -- the signs of the closed term at a place
    pub sign_is : (qs : List Pattern) (i j x : ℕ) → named_at p ns i ≡ Some x → sign_of (map (λ n. row_of p m qs (term_of p n)) ns) i j ≡ get_or (row_at p m qs (tree p.nodes x)) j None
    sign_is qs i j x e =
        let n = number_named i x e in
        ap (λ (o : Option Signs). sign_by o j) (slice_get-map (λ (k : ℕ). row_of p m qs (term_of p k)) ns i ∙ ap (option_map (λ (k : ℕ). row_of p m qs (term_of p k))) n.0)
        ∙ ap (λ (o : Option Tree). sign_in (slice_get (row_of p m qs o) j)) n.1 ∙ sign_reads (row_at p m qs (tree p.nodes x)) j
