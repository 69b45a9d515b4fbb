-- What is known of equations: the order of the sides doesn't matter, and nothing is known not to equal itself.
use Rattle.std.proofs.Common.{◌≡◌, ◌<◌, ◌≤◌, ◌^◌, ◌==◌, ℕ, nat_lt, Bool, true, false, cond, List, length, Option, Some, None, refl, sym, ap, ◌∙◌, arith}
use Rattle.std.proofs.lemmas.Bool.Decides.{nat_tests}
use Rattle.std.proofs.lemmas.Cmp.{nat_eq_equiv}
use Rattle.sc_clauses.specs.Assignments.{Assignment, value_of}
use Rattle.sc_terms.specs.Trees.{Tree}
use Rattle.sc_terms.specs.Folds.{truth_term, constant, literal_of, literals_same, not_term, other_equal, equal_by, equal_term}
use Rattle.sc_terms.specs.Tables.{tree}
use Rattle.sc_terms.proofs.OrderLaws.{tree_cmp_total, tree_eq-itself}
use Rattle.sc_footprint.specs.Problems.{Posed, IsPosed, literal_in}
use Rattle.sc_terms.proofs.EqualLaws.{constant_is, equal_turned as turned}
use Rattle.sc_rule_instances.specs.Known.{few_items, known, known_constant, known_equal, known_of, named_at, truth_of}

-- ---- either way round

pub equal_turned : (a b : Tree) → equal_term a b ≡ equal_term b a
equal_turned a b = turned tree_cmp_total a b

-- ---- a term equals itself

pub equal_itself : (a : Tree) → equal_term a a ≡ truth_term true
unfolding equal_term not_term
equal_itself a = by (constant a) refl
  where
    by : (o : Option Bool) → constant a ≡ o → equal_by o o a a ≡ truth_term true
    by (Some true) e = constant_is a true e
    by (Some false) e = rw e refl
    by None e = ap (λ (same : Bool). other_equal same (literals_same (literal_of a) (literal_of a)) a a) (tree_eq-itself a)

module _ (p : Posed) (m : Assignment) where
  pub known_turned : (a b : Tree) → known_of p m (equal_term a b) ≡ known_of p m (equal_term b a)
  known_turned a b = ap (known_of p m) (equal_turned a b)

  pub known_itself : (a : Tree) → known_of p m (equal_term a a) ≡ Some false → ⊥
  known_itself a e = by (value_of m 1) (ap (known_of p m) (sym (equal_itself a)) ∙ e)
    where
      by : (o : Option Bool) → known_constant o true ≡ Some false → ⊥
      by (Some true) f = absurd cc
      by (Some false) f = absurd cc
      by None f = absurd cc

-- ---- some closed terms, by their numbers

both_turned : (p : Posed) (m : Assignment) (a b : Option ℕ) → known_equal p m a b ≡ known_equal p m b a
both_turned p m (Some a) (Some b) =
    ap (λ (c : Bool). cond c None (known m (literal_in p (equal_term (tree p.nodes a) (tree p.nodes b))))) (nat_eq_equiv.symm a b)
    ∙ ap (λ (t : Tree). cond (b == a) None (known m (literal_in p t))) (equal_turned (tree p.nodes a) (tree p.nodes b))
both_turned p m (Some a) None = refl
both_turned p m None (Some b) = refl
both_turned p m None None = refl

both_itself : (p : Posed) (m : Assignment) (a : Option ℕ) → known_equal p m a a ≡ Some false → ⊥
both_itself p m (Some a) e =
    let none : None ≡ Some false = sym (ap (λ (c : Bool). cond c None (known m (literal_in p (equal_term (tree p.nodes a) (tree p.nodes a))))) (nat_eq_equiv.refl a)) ∙ e in
    absurd cc
both_itself p m None e = absurd cc

pub truth_turned : (p : Posed) (m : Assignment) (ns : List ℕ) (i j : ℕ) → truth_of p m ns i j ≡ truth_of p m ns j i
truth_turned p m ns i j = both_turned p m (named_at p ns i) (named_at p ns j)

pub truth_itself : (p : Posed) (m : Assignment) (ns : List ℕ) (i : ℕ) → truth_of p m ns i i ≡ Some false → ⊥
truth_itself p m ns i e = both_itself p m (named_at p ns i) e

-- of a problem no more numbers are known than there are closed terms
pub few_is : (p : Posed) (n : ℕ) → IsPosed p → n ≤ length p.closed → few_items n ≡ n
few_is p n posed h =
    let below : n < 10 ^ 18 = omega (arith, h, posed.small) in
    let small : nat_lt n (10 ^ 18) ≡ true = grind (arith, nat_tests, below) in
    ap (λ (b : Bool). cond b n 0) small
