-- The truth of what is said of bits: negations, conjunctions, disjunctions and equations of bits, some of which fold.
use Rattle.std.proofs.Common.{◌≡◌, ◌&&◌, ◌||◌, ◌+◌, ◌-◌, inl, inr, ℕ, min, nat_le, Bool, true, false, not, cond, List, [], ◌∷◌, Option, Some, None, refl, sym, ap, ◌∙◌, subst}
use Rattle.sc_laws.proofs.BoolLaws.{or_false}
use Rattle.sc_names.specs.declared.uid.Uid.{Uid}
use Rattle.sc_schema.specs.declared.declarations.Env.{Env}
use Rattle.sc_schema.specs.Declarations.{Declarations}
use Rattle.sc_sorts.specs.declared.sort.Sort.TheVariants as sort
use Rattle.sc_sorts.specs.declared.node.BinaryOp.TheVariants as binary
use Rattle.sc_bits.specs.Adders.{differ}
use Rattle.sc_bits.specs.Blocks.{agrees_at}
use Rattle.sc_bits.specs.Products.{partial}
use Rattle.sc_terms.specs.Trees.{Tree, two}
use Rattle.sc_terms.specs.TreeSorts.{tree_sort}
use Rattle.sc_terms.specs.Order.{tree_eq}
use Rattle.sc_terms.specs.Folds.{constant, truth_term, not_term, and_by, and_term, or_by, or_term, equal_term, bit_term}
use Rattle.sc_terms.proofs.OrderLaws.{tree_eq-exact}
use Rattle.sc_term_definitions.specs.Definitions.{definition, table, partial_term, place_agrees}
use Rattle.sc_term_definitions.specs.declared.function.Function.TheVariants.{Both, Either}
use Rattle.sc_closure_rules.specs.Closure.{Closed}
use Rattle.sc_model_laws.specs.Assignments.{lit}
use Rattle.sc_model_laws.specs.Vals.{Model, bits_of}
use Rattle.sc_model_laws.specs.Models.{IsModel}
use Rattle.sc_model_laws.proofs.ClaimLaws.{AreTerms, AreAddresses, by_definition, bit_sort, lit_equal, lit_equal_unless}
use Rattle.sc_model_laws.proofs.ClosedLaws.{of_part}
use Rattle.sc_model_laws.proofs.EquationTerms.{lit_constant, lit_not, lit_truth}

-- ---- truth values

and_true : (b : Bool) → b ≡ (b && true)
and_true true = refl
and_true false = refl

and_false : (b : Bool) → false ≡ (b && false)
and_false true = refl
and_false false = refl

and_itself : (b : Bool) → b ≡ (b && b)
and_itself true = refl
and_itself false = refl

or_true : (b : Bool) → true ≡ (b || true)
or_true true = refl
or_true false = refl

or_itself : (b : Bool) → b ≡ (b || b)
or_itself true = refl
or_itself false = refl

both_is : (a b : Tree) → definition (two binary.And a b) ≡ table Both (a ∷ b ∷ [])
unfolding definition
both_is a b = refl

either_is : (a b : Tree) → definition (two binary.Or a b) ≡ table Either (a ∷ b ∷ [])
unfolding definition
either_is a b = refl

module _ (d : Declarations) (env : Env) (literals : List Uid) (goal : Tree) (addresses : AreAddresses) (terms : AreTerms d env literals goal) (m : Model) (is : IsModel d env goal m) where
  -- a term has this truth where it is closed, and where it is a constant
  pub record IsTold (x : Tree) (b : Bool) : Type 0 where
    pub of_closed : Closed d env goal x → lit m.truths x ≡ b
    pub of_constant : (c : Bool) → constant x ≡ Some c → c ≡ b

  told_as : (x : Tree) (b : Bool) → lit m.truths x ≡ b → IsTold x b
  told_as x b e = record { of_closed = λ c. e; of_constant = λ c f. sym (lit_constant m.truths x c f) ∙ e }

  told_itself : (x : Tree) → IsTold x (lit m.truths x)
  told_itself x = told_as x (lit m.truths x) refl

  told_not : (x : Tree) → IsTold (not_term x) (not (lit m.truths x))
  told_not x = told_as (not_term x) (not (lit m.truths x)) (lit_not m.truths x)

  told_equal : (x y : Tree) → tree_sort x ≡ sort.Bool → tree_sort y ≡ sort.Bool → IsTold (equal_term x y) (not (differ (lit m.truths x) (lit m.truths y)))
  told_equal x y e f = record {
    of_closed = λ c. lit_equal d env literals goal addresses terms m is x y e f c;
    of_constant = λ c h.
        sym (lit_constant m.truths (equal_term x y) c h)
        ∙ lit_equal_unless d env literals goal addresses terms m is x y e f (λ n. let both : Some c ≡ None = sym h ∙ n in absurd cc);
  }

  module _ (s t : Tree) (u v : Bool) (first : IsTold s u) (later : IsTold t v) where
    -- two terms that are one have one truth
    one_truth : tree_eq s t ≡ true → Closed d env goal s → lit m.truths s ≡ v
    one_truth e c = let one : s ≡ t = tree_eq-exact s t e in ap (lit m.truths) one ∙ later.of_closed (subst (Closed d env goal) one c)

    no_constant : {c b : Bool} → constant s ≡ None → constant s ≡ Some c → c ≡ b
    no_constant {c} e f = let both : Some c ≡ None = sym f ∙ e in absurd cc

    and_closed : Closed d env goal (two binary.And s t) → lit m.truths (two binary.And s t) ≡ (u && v)
    unfolding tree_sort
    and_closed c =
        by_definition d env literals goal addresses terms m is (two binary.And s t) (table Both (s ∷ t ∷ [])) refl (both_is s t) c
        ∙ (λ i. first.of_closed (of_part d env goal (two binary.And s t) s c (inl refl)) i && later.of_closed (of_part d env goal (two binary.And s t) t c (inr (inl refl))) i)

    or_closed : Closed d env goal (two binary.Or s t) → lit m.truths (two binary.Or s t) ≡ (u || v)
    unfolding tree_sort
    or_closed c =
        by_definition d env literals goal addresses terms m is (two binary.Or s t) (table Either (s ∷ t ∷ [])) refl (either_is s t) c
        ∙ (λ i. first.of_closed (of_part d env goal (two binary.Or s t) s c (inl refl)) i || later.of_closed (of_part d env goal (two binary.Or s t) t c (inr (inl refl))) i)

    told_and : IsTold (and_term s t) (u && v)
    unfolding and_term
    told_and = by (constant s) (constant t) (tree_eq s t) refl refl refl where
      by : (o p : Option Bool) (q : Bool) → constant s ≡ o → constant t ≡ p → tree_eq s t ≡ q → IsTold (and_by o p q s t) (u && v)
      by (Some true) p q a b e = subst (λ (x : Bool). IsTold t (x && v)) (first.of_constant true a) later
      by (Some false) p q a b e = subst (IsTold s) (sym (first.of_constant false a) ∙ ap (λ (x : Bool). x && v) (first.of_constant false a)) first
      by None (Some true) q a b e = subst (IsTold s) (and_true u ∙ ap (λ (x : Bool). u && x) (later.of_constant true b)) first
      by None (Some false) q a b e = subst (IsTold t) (sym (later.of_constant false b) ∙ and_false u ∙ ap (λ (x : Bool). u && x) (later.of_constant false b)) later
      by None None true a b e = record {
        of_closed = λ c. and_itself (lit m.truths s) ∙ (λ i. first.of_closed c i && one_truth e c i);
        of_constant = λ c f. no_constant a f;
      }
      by None None false a b e = record { of_closed = and_closed; of_constant = λ c f. absurd cc }

    told_or : IsTold (or_term s t) (u || v)
    unfolding or_term
    told_or = by (constant s) (constant t) (tree_eq s t) refl refl refl where
      by : (o p : Option Bool) (q : Bool) → constant s ≡ o → constant t ≡ p → tree_eq s t ≡ q → IsTold (or_by o p q s t) (u || v)
      by (Some true) p q a b e = subst (IsTold s) (sym (first.of_constant true a) ∙ ap (λ (x : Bool). x || v) (first.of_constant true a)) first
      by (Some false) p q a b e = subst (λ (x : Bool). IsTold t (x || v)) (first.of_constant false a) later
      by None (Some true) q a b e = subst (IsTold t) (sym (later.of_constant true b) ∙ or_true u ∙ ap (λ (x : Bool). u || x) (later.of_constant true b)) later
      by None (Some false) q a b e = subst (IsTold s) (sym (or_false u) ∙ ap (λ (x : Bool). u || x) (later.of_constant false b)) first
      by None None true a b e = record {
        of_closed = λ c. or_itself (lit m.truths s) ∙ (λ i. first.of_closed c i || one_truth e c i);
        of_constant = λ c f. no_constant a f;
      }
      by None None false a b e = record { of_closed = or_closed; of_constant = λ c f. absurd cc }

  -- ---- what products and ranges ask of bits

  -- bit j of partial product i
  pub partial_told : (a b : Tree) (i j : ℕ) → IsTold (partial_term a b i j) (partial (bits_of m a) (bits_of m b) i j)
  partial_told a b i j = by (nat_le i j) where
    by : (t : Bool) → IsTold (cond t (and_term (bit_term a (min (j - i) 63)) (bit_term b (min i 63))) (truth_term false)) (t && (bits_of m a (min (j - i) 63) && bits_of m b (min i 63)))
    by true =
        told_and (bit_term a (min (j - i) 63)) (bit_term b (min i 63)) (bits_of m a (min (j - i) 63)) (bits_of m b (min i 63))
        (told_itself (bit_term a (min (j - i) 63))) (told_itself (bit_term b (min i 63)))
    by false = told_as (truth_term false) false (lit_truth m.truths false)

  -- whether place j is free in b, or held fast in a too, where the addresses agree
  pub place_told : (a b : Tree) (j : ℕ) → IsTold (place_agrees a b j) (agrees_at (bits_of m a) (bits_of m b) j)
  place_told a b j =
      let same : Tree = equal_term (bit_term a (129 + j)) (bit_term b (129 + j)) in
      let alike : Bool = not (differ (bits_of m a (129 + j)) (bits_of m b (129 + j))) in
      told_or (not_term (bit_term b (1 + j))) (and_term (bit_term a (1 + j)) (equal_term (bit_term a (129 + j)) (bit_term b (129 + j))))
      (not (bits_of m b (1 + j))) (bits_of m a (1 + j) && alike) (told_not (bit_term b (1 + j)))
      (told_and (bit_term a (1 + j)) same (bits_of m a (1 + j)) alike (told_itself (bit_term a (1 + j)))
      (told_equal (bit_term a (129 + j)) (bit_term b (129 + j)) (bit_sort a (129 + j)) (bit_sort b (129 + j))))
