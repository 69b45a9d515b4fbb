-- What the parts of a term are that has bits, a sum, a product or a comparison.
use Rattle.std.proofs.Common.{◌≡◌, ◌&&◌, ◌<◌, ◌≤◌, ℕ, Bool, true, nat_lt, nat_le, List, sym, ap, ◌∙◌, subst}
use Rattle.sc_laws.proofs.NumberLaws.{at_most}
use Rattle.sc_laws.proofs.BoolLaws.{and_first, and_second}
use Rattle.sc_names.specs.declared.uid.Uid.{Uid}
use Rattle.sc_schema.specs.declared.declarations.Env.{Env}
use Rattle.sc_schema.specs.Declarations.{Declarations}
use Rattle.sc_sorts.specs.declared.sort.Sort.{Sort, Sort-F}
use Rattle.sc_sorts.specs.declared.sort.Sort.TheVariants as sort
use Rattle.sc_sorts.specs.contracts.sort.SortPartialEq.TheImpl.{ghosts as sorts}
use Rattle.sc_sorts.proofs.OutLaws.{out_Long}
use Rattle.sc_terms.specs.Trees.{Tree}
use Rattle.sc_terms.specs.TreeSorts.{tree_sort}
use Rattle.sc_term_laws.specs.Judging.{IsTermOf, IsTerm, IsNumberSort}
use Rattle.sc_term_laws.specs.Tests.{is_bool, is_ip, is_long, is_number, both_long, both_bool, both_numbers, has_place, place_level}
use Rattle.sc_term_laws.proofs.TestLaws as test

-- a place of a whole number
pub long_place : (i : ℕ) → has_place sort.Long i ≡ true → i < 64
long_place i h = test.below i 64 (ap (λ (k : Sort-F Sort). place_level k i) (sym out_Long) ∙ h)

module _ (d : Declarations) (env : Env) (written : List Uid) where
  abbrev Is : Sort → Tree → Type 0
  Is k t = IsTermOf d env written k t

  of_sort : (k l : Sort) (t : Tree) → k ≡ l → Is k t → Is l t
  of_sort k l t e h = subst (λ (z : Sort). Is z t) e h

  module _ (a b : Tree) (g : IsTerm d env written a) (h : IsTerm d env written b) where
    pub longs : both_long (tree_sort a) (tree_sort b) ≡ true → Is sort.Long a × Is sort.Long b
    longs t = (
      of_sort (tree_sort a) sort.Long a (test.long_sort (tree_sort a) (and_first _ _ t)) g,
      of_sort (tree_sort b) sort.Long b (test.long_sort (tree_sort b) (and_second (is_long (tree_sort a)) _ t)) h,
    )

    pub bools : both_bool (tree_sort a) (tree_sort b) ≡ true → Is sort.Bool a × Is sort.Bool b
    bools t = (
      of_sort (tree_sort a) sort.Bool a (test.bool_sort (tree_sort a) (and_first _ _ t)) g,
      of_sort (tree_sort b) sort.Bool b (test.bool_sort (tree_sort b) (and_second (is_bool (tree_sort a)) _ t)) h,
    )

    pub ips : (is_ip (tree_sort a) && is_ip (tree_sort b)) ≡ true → Is sort.Ip a × Is sort.Ip b
    ips t = (
      of_sort (tree_sort a) sort.Ip a (test.ip_sort (tree_sort a) (and_first _ _ t)) g,
      of_sort (tree_sort b) sort.Ip b (test.ip_sort (tree_sort b) (and_second (is_ip (tree_sort a)) _ t)) h,
    )

    pub second_alike : sorts.eq (tree_sort a) (tree_sort b) ≡ true → Is (tree_sort a) b
    second_alike t = of_sort (tree_sort b) (tree_sort a) b (sym (test.same_sorts (tree_sort a) (tree_sort b) t)) h

    -- two numbers of one sort
    pub numbers : both_numbers (tree_sort a) (tree_sort b) ≡ true → IsNumberSort (tree_sort a) × Is (tree_sort a) a × Is (tree_sort a) b
    numbers t = (test.number_sort (tree_sort a) (and_first _ _ t), g, second_alike (and_second (is_number (tree_sort a)) _ t))

-- the places of a carry, of a row and of a carry between rows
pub carry_place : (b : Bool) (i : ℕ) → (b && nat_le i 64) ≡ true → i ≤ 64
carry_place b i t = at_most i 64 (and_second b _ t)

pub row_places : (b : Bool) (i j : ℕ) → (b && (nat_le i 128 && nat_lt j 128)) ≡ true → (i ≤ 128) × (j < 128)
row_places b i j t = let rest = and_second b _ t in (at_most i 128 (and_first _ _ rest), test.below j 128 (and_second (nat_le i 128) _ rest))

pub product_carry_places : (b : Bool) (i j : ℕ) → (b && (nat_lt i 128 && nat_le j 128)) ≡ true → (i < 128) × (j ≤ 128)
product_carry_places b i j t = let rest = and_second b _ t in (test.below i 128 (and_first _ _ rest), at_most j 128 (and_second (nat_lt i 128) _ rest))
