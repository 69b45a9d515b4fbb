-- Rows of the table of definitions at terms.
use Rattle.std.proofs.Common.{◌≡◌, true, false, [], ◌∷◌, refl}
use Rattle.sc_sorts.specs.declared.node.UnaryOp.TheVariants as unary
use Rattle.sc_sorts.specs.declared.node.BinaryOp.TheVariants as binary
use Rattle.sc_terms.specs.Trees.{Tree, one, two}
use Rattle.sc_terms.specs.Folds.{truth_term, bit_term}
use Rattle.sc_term_definitions.specs.declared.function.Function.TheVariants.{Both, Odd, Majority, SignedBelow}
use Rattle.sc_term_definitions.specs.declared.function.Shape.TheVariants.{Table}
use Rattle.sc_term_definitions.specs.Functions.{rows, value_of}
use Rattle.sc_term_definitions.specs.Definitions.{table, fixed, free, counted, definition, inputs_of, product_row}

-- the rows of two inputs are counted in binary with the first input highest
two_inputs : rows 2 ≡ (false ∷ false ∷ []) ∷ (false ∷ true ∷ []) ∷ (true ∷ false ∷ []) ∷ (true ∷ true ∷ []) ∷ []
unfolding rows
two_inputs = refl

two_of_three : value_of Majority (true ∷ false ∷ true ∷ []) ≡ true
two_of_three = refl

-- a number with the sign is less than one without
minus_is_less : value_of SignedBelow (true ∷ false ∷ false ∷ []) ≡ true
minus_is_less = refl

module _ (a b : Tree) where
  true_is_true : definition (truth_term true) ≡ fixed true
  unfolding definition
  true_is_true = refl

  conjunction : definition (two binary.And a b) ≡ table Both (a ∷ b ∷ [])
  unfolding definition
  conjunction = refl

  -- 1 is carried into the lowest bit of a difference, and nothing into that of a sum
  first_carry : definition (one (unary.CarryIn 0) (two binary.Subtract a b)) ≡ fixed true
  unfolding definition
  first_carry = refl

  -- bit 3 of a difference: the second input is negated
  difference_bit : definition (one (unary.Bit 3) (two binary.Subtract a b))
      ≡ record { shape = Table Odd true; inputs = bit_term a 3 ∷ bit_term b 3 ∷ one (unary.CarryIn 3) (two binary.Subtract a b) ∷ [] }
  unfolding definition
  difference_bit = refl

  carry : inputs_of (one (unary.CarryIn 5) (two binary.Add a b)) ≡ bit_term a 4 ∷ bit_term b 4 ∷ one (unary.CarryIn 4) (two binary.Add a b) ∷ []
  unfolding definition
  carry = refl

  -- a partial product adds nothing below its place
  row_bit : inputs_of (one (unary.ProductRow 3 1) (two binary.Multiply a b)) ≡ product_row a b 2 1 ∷ truth_term false ∷ one (unary.ProductCarry 2 1) (two binary.Multiply a b) ∷ []
  unfolding definition
  row_bit = refl

  membership : definition (two binary.Member a b) ≡ free
  unfolding definition
  membership = refl

numbers : counted 64 3 ≡ 64 ∷ 65 ∷ 66 ∷ []
unfolding counted
numbers = refl
