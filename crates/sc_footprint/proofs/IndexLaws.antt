-- Numbers of terms are places of their numbers in the table.
use Rattle.std.proofs.Common.{◌≡◌, ◌↔◌, ◌<◌, ℕ, zero, suc, ◌==◌, Bool, true, cond, List, [], ◌∷◌, map, length, Some, None, unwrap_or, refl, sym, ap, ◌∙◌, arith}
use Rattle.std.proofs.lemmas.Bool.Decides.{nat_tests}
use Rattle.std.specs.Cmp.{both_ways}
use Rattle.std.specs.List.{AllByRecursion}
use Rattle.std.specs.declared.cmp.Ordering.{Ordering}
use Rattle.std.specs.declared.cmp.Ordering.TheVariants.{Less, Equal, Greater}
use Rattle.std.specs.Ordering.{is_eq}
use Rattle.sc_laws.proofs.NumberLaws.{suc_isnt_zero}
use Rattle.sc_sorts.specs.declared.node.Node.{Node}
use Rattle.sc_terms.specs.Trees.{Tree}
use Rattle.sc_terms.specs.Tables.{tree, IsTable}
use Rattle.sc_terms.specs.Order.{tree_cmp, tree_eq}
use Rattle.sc_terms.proofs.OrderLaws.{tree_cmp_level}
use Rattle.sc_closure.specs.Places.{place_among}
use Rattle.sc_footprint.specs.Problems.{Posed, IsPosed, closed_terms, number_among, number_of, if_any}

module _ (xs : List Node) (t : IsTable xs) (level : (a b : Tree) → tree_cmp a b ≡ Equal ↔ a ≡ b) where
  level_tested : (o : Ordering) → is_eq o ≡ true → o ≡ Equal
  level_tested Less h = cc
  level_tested Equal h = refl
  level_tested Greater h = cc

  same_number : (m n : ℕ) → m < length xs → n < length xs → (m == n) ≡ tree_eq (tree xs m) (tree xs n)
  unfolding tree_eq
  same_number m n h k =
      both_ways (m == n) (tree_eq (tree xs m) (tree xs n))
      (λ e. let f : m ≡ n = grind (arith, nat_tests) in ap is_eq ((level (tree xs m) (tree xs n)).1 (ap (tree xs) f)))
      (λ e. let f : m ≡ n = t.apart m n h k ((level (tree xs m) (tree xs n)).0 (level_tested (tree_cmp (tree xs m) (tree xs n)) e)) in grind (arith, nat_tests))

  pub number_is_place : (ns : List ℕ) (n : ℕ) → AllByRecursion (λ m. m < length xs) ns → n < length xs → number_among (map (tree xs) ns) (tree xs n) ≡ place_among ns n
  number_is_place [] n h k = refl
  number_is_place (m ∷ ms) n h k = rw (same_number m n h.0 k, number_is_place ms n h.1 k) refl

-- the number of a closed term, by its number in the table
pub number_told : (p : Posed) (n : ℕ) → IsTable p.nodes → IsPosed p → n < length p.nodes → unwrap_or (number_of p n) 0 ≡ number_among (closed_terms p) (tree p.nodes n)
number_told p n table posed h = by (place_among p.closed n) ∙ sym (number_is_place p.nodes table tree_cmp_level p.closed n posed.within h)
  where
    by : (k : ℕ) → unwrap_or (if_any k) 0 ≡ k
    by zero = refl
    by (suc k) = ap (λ (b : Bool). unwrap_or (cond b None (Some (suc k))) 0) (suc_isnt_zero k)
