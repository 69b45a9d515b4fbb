-- Clauses, literals and numbers at small cases.
use Rattle.std.proofs.Common.{◌≡◌, ℕ, true, false, [], ◌∷◌, Some, None, refl}
use Rattle.sc_clauses.specs.Clauses.{positive, negation}
use Rattle.sc_sorts.specs.declared.node.UnaryOp.TheVariants.{Not}
use Rattle.sc_terms.specs.Trees.{Tree, one, choice}
use Rattle.sc_terms.specs.Folds.{truth_term}
use Rattle.sc_closure.specs.DefinedFunction.TheVariants.{Both, Itself}
use Rattle.sc_closure.specs.DefinedShape.TheVariants.{Table, All, NotAll, Fixed}
use Rattle.sc_closure.specs.Functions.{rows}
use Rattle.sc_footprint.specs.Definitions.{is_tautology, clauses_by, mask_clause, short_clauses}
use Rattle.sc_footprint.specs.Problems.{literal, numbered}

-- atom 4 is whether 2 and 3 are true: a row for each of their values, counted in binary with the first highest
conjunction : clauses_by (Table Both false) (positive 4) (positive 2 ∷ positive 3 ∷ [])
    ≡ (positive 2 ∷ positive 3 ∷ negation (positive 4) ∷ [])
    ∷ (positive 2 ∷ negation (positive 3) ∷ negation (positive 4) ∷ [])
    ∷ (negation (positive 2) ∷ positive 3 ∷ negation (positive 4) ∷ [])
    ∷ (negation (positive 2) ∷ negation (positive 3) ∷ positive 4 ∷ [])
    ∷ []
unfolding rows
conjunction = refl

-- a bit of a product is that of its last row
one_input : clauses_by (Table Itself false) (positive 3) (positive 2 ∷ []) ≡ (positive 2 ∷ negation (positive 3) ∷ []) ∷ (negation (positive 2) ∷ positive 3 ∷ []) ∷ []
unfolding rows
one_input = refl

-- atom 5 is whether both are true; and whether one isn't
all_inputs : clauses_by All (positive 5) (positive 2 ∷ positive 3 ∷ [])
    ≡ (negation (positive 5) ∷ positive 2 ∷ []) ∷ (negation (positive 5) ∷ positive 3 ∷ []) ∷ (positive 5 ∷ negation (positive 2) ∷ negation (positive 3) ∷ []) ∷ []
all_inputs = refl

some_input_false : clauses_by NotAll (positive 5) (positive 2 ∷ []) ≡ (positive 5 ∷ positive 2 ∷ []) ∷ (negation (positive 5) ∷ negation (positive 2) ∷ []) ∷ []
some_input_false = refl

true_atom : clauses_by (Fixed true) (positive 1) [] ≡ (positive 1 ∷ []) ∷ []
true_atom = refl

-- an atom beside its negation is dropped, and one that is written twice isn't
dropped : is_tautology (positive 2 ∷ positive 3 ∷ negation (positive 2) ∷ []) ≡ true
dropped = refl

twice : is_tautology (positive 2 ∷ positive 2 ∷ []) ≡ false
twice = refl

-- a prefix that is longer than 1 is longer than 0; the literal of bit i is that of atom i here
mask : mask_clause positive 0 ≡ negation (positive 2) ∷ positive 1 ∷ []
mask = refl

short : short_clauses positive 32 ≡ (positive 0 ∷ negation (positive 33) ∷ []) ∷ (positive 0 ∷ negation (positive 161) ∷ []) ∷ []
short = refl

module _ (number : Tree → ℕ) (a c : Tree) where
  false_literal : literal number (truth_term false) ≡ negation (positive 1)
  unfolding literal
  false_literal = refl

  negated : literal number (one Not (choice c a a)) ≡ negation (positive (number (choice c a a)))
  unfolding literal
  negated = refl

-- numbers count from 1
second : numbered {X = ℕ} (7 ∷ 9 ∷ []) 2 ≡ Some 9
second = refl

none : numbered {X = ℕ} (7 ∷ 9 ∷ []) 0 ≡ None
none = refl
