-- The place of a term among others.
use Rattle.std.proofs.Common.{◌≡◌, ◌<◌, ◌==◌, ◌-◌, ◌+◌, ℕ, zero, suc, Bool, true, false, List, [], ◌∷◌, Option, Some, None, slice_get, map, length, get_or, unwrap_or, refl, sym, ap, ◌∙◌, subst, arith}
use Rattle.std.specs.Prelude.{if◌then◌else◌}
use Rattle.std.specs.List.{AllByRecursion}
use Rattle.std.proofs.lemmas.Option.{get_or_from_slice_get}
use Rattle.std.specs.Option.{is_none}
use Rattle.sc_lists.specs.Members.{Has}
use Rattle.sc_sorts.specs.declared.node.Node.{Node}
use Rattle.sc_terms.specs.Trees.{Tree}
use Rattle.sc_terms.specs.Tables.{tree, IsTable}
use Rattle.sc_terms.proofs.OrderLaws.{tree_cmp_level}
use Rattle.sc_closure.specs.Places.{place_among}
use Rattle.sc_footprint.specs.Problems.{number_among, numbered}
use Rattle.sc_footprint.proofs.IndexLaws.{number_is_place}
use Rattle.sc_footprint.proofs.NumberingLaws.{numbered_back}

pub place_same : (xs : List Node) (keys : List ℕ) (n : ℕ) → IsTable xs → AllByRecursion (λ m. m < length xs) keys → n < length xs
    → place_among keys n ≡ number_among (map (tree xs) keys) (tree xs n)
place_same xs keys n table all h = sym (number_is_place xs table tree_cmp_level keys n all h)

-- ---- what stands at the place of a term

got_within : (ts : List Tree) (i : ℕ) (t : Tree) → slice_get ts i ≡ Some t → i < length ts
got_within [] i t e = let f : true ≡ false = ap is_none e in absurd cc
got_within (u ∷ us) zero t e = omega arith
got_within (u ∷ us) (suc i) t e = omega (arith, got_within us i t e)

chosen : (b : Bool) (o : Option Tree) (t : Tree) → (if b then None else o) ≡ Some t → o ≡ Some t
chosen true o t e = let f : true ≡ false = ap is_none e in absurd cc
chosen false o t e = e

by_number : (ts : List Tree) (k : ℕ) (t : Tree) → numbered ts k ≡ Some t → slice_get ts (k - 1) ≡ Some t
by_number ts k t e = chosen (k == 0) (slice_get ts (k - 1)) t e

pub stands_at : (ts : List Tree) (t d : Tree) → Has ts t → get_or ts (number_among ts t - 1) d ≡ t
stands_at ts t d h = get_or_from_slice_get ts (number_among ts t - 1) t d (by_number ts (number_among ts t) t (numbered_back tree_cmp_level ts t h))

pub within_place : (ts : List Tree) (t : Tree) → Has ts t → number_among ts t - 1 < length ts
within_place ts t h = got_within ts (number_among ts t - 1) t (by_number ts (number_among ts t) t (numbered_back tree_cmp_level ts t h))

-- ---- the number at a place

pub number_within : (l : ℕ) (keys : List ℕ) (i n : ℕ) → AllByRecursion (λ m. m < l) keys → slice_get keys i ≡ Some n → n < l
number_within l [] i n all e = let f : true ≡ false = ap is_none e in absurd cc
number_within l (m ∷ keys) zero n all e = subst (λ z. z < l) (ap (λ (o : Option ℕ). unwrap_or o n) e) all.0
number_within l (m ∷ keys) (suc i) n all e = number_within l keys i n all.1 e

pub term_at : (xs : List Node) (keys : List ℕ) (i n : ℕ) (d : Tree) → slice_get keys i ≡ Some n → get_or (map (tree xs) keys) i d ≡ tree xs n
term_at xs [] i n d e = let f : true ≡ false = ap is_none e in absurd cc
term_at xs (m ∷ keys) zero n d e = ap (λ (o : Option ℕ). tree xs (unwrap_or o n)) e
term_at xs (m ∷ keys) (suc i) n d e = term_at xs keys i n d e

pub nothing_at : (xs : List Node) (keys : List ℕ) (i : ℕ) → slice_get keys i ≡ None → i < length (map (tree xs) keys) → ⊥
nothing_at xs [] i e h = omega (arith, h)
nothing_at xs (m ∷ keys) zero e h = let f : false ≡ true = ap is_none e in absurd cc
nothing_at xs (m ∷ keys) (suc i) e h = nothing_at xs keys i e (omega (arith, h))
