-- How each truth value is defined by others: by a truth table, as all of them, or as a constant. What isn't said here
-- is defined by nothing. From these data follow the clauses, their number and their truth, and which terms a
-- definition brings in.
use Rattle.std.specs.Prelude.{ℕ, zero, suc, ◌+◌, ◌-◌, min, nat_le, Bool, true, false, List, [], ◌∷◌, map, if◌then◌else◌}
use Rattle.sc_sorts.specs.declared.sort.Sort.{Sort, Sort-F, out-Sort}
use Rattle.sc_sorts.specs.declared.sort.Sort.TheOpen as s
use Rattle.sc_sorts.specs.declared.node.Leaf.{Leaf}
use Rattle.sc_sorts.specs.declared.node.Leaf.TheVariants.{Literal}
use Rattle.sc_sorts.specs.declared.node.Literal.TheVariants.{Bool as bool}
use Rattle.sc_sorts.specs.declared.node.UnaryOp.{UnaryOp}
use Rattle.sc_sorts.specs.declared.node.UnaryOp.TheVariants as unary
use Rattle.sc_sorts.specs.declared.node.BinaryOp.{BinaryOp}
use Rattle.sc_sorts.specs.declared.node.BinaryOp.TheVariants as binary
use Rattle.sc_terms.specs.Trees.{Tree, leaf, one, two, choice, many}
use Rattle.sc_terms.specs.TreeSorts.{tree_sort}
use Rattle.sc_terms.specs.Folds.{truth_term, not_term, and_term, or_term, equal_term, bit_term}
use Rattle.sc_term_definitions.specs.declared.function.Function.{Function}
use Rattle.sc_term_definitions.specs.declared.function.Function.TheVariants.{Itself, Both, Either, Same, Chosen, Odd, Majority, SumOverflows, DifferenceOverflows, Below, SignedBelow}
use Rattle.sc_term_definitions.specs.declared.function.Shape.{Shape}
use Rattle.sc_term_definitions.specs.declared.function.Shape.TheVariants.{Table, All, NotAll, Fixed, Free}

pub record Definition : Type 0 where
  pub shape : Shape
  pub inputs : List Tree

abbrev pub table : Function → List Tree → Definition
table f ts = record { shape = Table f false; inputs = ts }

abbrev pub all : List Tree → Definition
all ts = record { shape = All; inputs = ts }

abbrev pub fixed : Bool → Definition
fixed b = record { shape = Fixed b; inputs = [] }

abbrev pub free : Definition
free = record { shape = Free; inputs = [] }

-- so many numbers, from one on
unfoldable pub counted : ℕ → ℕ → List ℕ
counted from zero = []
counted from (suc n) = from ∷ counted (suc from) n

-- how many bits the values of a sort have: numbers 64, addresses one for the version, 128 for the prefix and 128 of
-- the address
abbrev pub bits_in : Sort-F Sort → ℕ
bits_in s.Long = 64
bits_in s.Decimal = 64
bits_in s.Ip = 257
bits_in _ = 0

abbrev pub bit_count : Sort → ℕ
bit_count k = bits_in (out-Sort k)

-- ---- sums and differences: a difference adds the complement of b, and 1

abbrev pub is_difference : BinaryOp → Bool
is_difference binary.Subtract = true
is_difference _ = false

-- what a place of a sum adds: the two bits, the second negated in a difference, and the carry
abbrev pub added_at : Function → BinaryOp → Tree → Tree → ℕ → Definition
added_at f o a b i = record {
  shape = Table f (is_difference o);
  inputs = bit_term a i ∷ bit_term b i ∷ one (unary.CarryIn i) (two o a b) ∷ [];
}

-- the first carry is 0 of a sum and 1 of a difference
abbrev pub carry_at : BinaryOp → Tree → Tree → ℕ → Definition
carry_at o a b zero = fixed (is_difference o)
carry_at o a b (suc i) = added_at Majority o a b i

abbrev pub carry_of : BinaryOp → Tree → Tree → ℕ → Definition
carry_of binary.Add a b i = carry_at binary.Add a b i
carry_of binary.Subtract a b i = carry_at binary.Subtract a b i
carry_of _ a b i = free

-- ---- products: of partial products, row after row, in 128 bits, to which both factors are extended by their sign

abbrev pub product_row : Tree → Tree → ℕ → ℕ → Tree
product_row a b i j = one (unary.ProductRow i j) (two binary.Multiply a b)

-- bit j of partial product i: a moved up by i places where b has its bit i
abbrev pub partial_term : Tree → Tree → ℕ → ℕ → Tree
partial_term a b i j = if nat_le i j then and_term (bit_term a (min (j - i) 63)) (bit_term b (min i 63))
    else truth_term false

-- what a place of a row adds: the row before, the partial product and the carry
abbrev pub row_inputs : Tree → Tree → ℕ → ℕ → List Tree
row_inputs a b i j = product_row a b i j ∷ partial_term a b i j
    ∷ one (unary.ProductCarry i j) (two binary.Multiply a b) ∷ []

abbrev pub row_at : Tree → Tree → ℕ → ℕ → Definition
row_at a b zero j = fixed false
row_at a b (suc i) j = table Odd (row_inputs a b i j)

abbrev pub row_carry_at : Tree → Tree → ℕ → ℕ → Definition
row_carry_at a b i zero = fixed false
row_carry_at a b i (suc j) = table Majority (row_inputs a b i j)

abbrev pub row_of : BinaryOp → Tree → Tree → ℕ → ℕ → Definition
row_of binary.Multiply a b i j = row_at a b i j
row_of _ a b i j = free

abbrev pub row_carry_of : BinaryOp → Tree → Tree → ℕ → ℕ → Definition
row_carry_of binary.Multiply a b i j = row_carry_at a b i j
row_carry_of _ a b i j = free

-- bits 64 to 127 of a product's last row are all as bit 63
abbrev pub sign_equations : Tree → List Tree
sign_equations m = map (λ j. equal_term (one (unary.ProductRow 128 63) m) (one (unary.ProductRow 128 j) m))
    (counted 64 64)

-- just where they are, the exact product is one of 64 bits
abbrev pub upper_bits : Tree → Tree → List Tree
upper_bits a b = sign_equations (two binary.Multiply a b)

-- ---- bits of what is calculated; those of other terms are free

abbrev pub bit_of : BinaryOp → Tree → Tree → ℕ → Definition
bit_of binary.Add a b i = added_at Odd binary.Add a b i
bit_of binary.Subtract a b i = added_at Odd binary.Subtract a b i
bit_of binary.Multiply a b i = table Itself (product_row a b 128 i ∷ [])
bit_of _ a b i = free

-- ---- comparisons

abbrev pub low_at : Tree → Tree → ℕ → Definition
low_at a b zero = fixed false
low_at a b (suc i) = table Below (bit_term a i ∷ bit_term b i ∷ two (binary.Low i) a b ∷ [])

-- place j of the prefix of b is free, or held fast in a too, where the addresses agree
abbrev pub place_agrees : Tree → Tree → ℕ → Tree
place_agrees a b j = or_term (not_term (bit_term b (1 + j)))
    (and_term (bit_term a (1 + j)) (equal_term (bit_term a (129 + j)) (bit_term b (129 + j))))

abbrev pub agreements : Tree → Tree → List Tree
agreements a b = map (place_agrees a b) (counted 0 128)

abbrev pub range_inputs : Tree → Tree → List Tree
range_inputs a b = equal_term (bit_term a 0) (bit_term b 0) ∷ agreements a b

-- so many of two terms' bits are alike
abbrev pub equal_bits : Tree → Tree → ℕ → List Tree
equal_bits a b n = map (λ i. equal_term (bit_term a i) (bit_term b i)) (counted 0 n)

abbrev pub equal_by_bits : ℕ → Tree → Tree → Definition
equal_by_bits zero a b = free
equal_by_bits (suc n) a b = all (equal_bits a b (suc n))

-- of truth values and of what has bits; others have rules
abbrev pub equal_of : Sort-F Sort → Tree → Tree → Definition
equal_of s.Bool a b = table Same (a ∷ b ∷ [])
equal_of k a b = equal_by_bits (bits_in k) a b

-- ---- all rows

-- bits, carries and rows of what two terms make
abbrev pub bit_over : ℕ → Tree → Definition
bit_over i (two o a b) = bit_of o a b i
bit_over i _ = free

abbrev pub carry_over : ℕ → Tree → Definition
carry_over i (two o a b) = carry_of o a b i
carry_over i _ = free

abbrev pub row_over : ℕ → ℕ → Tree → Definition
row_over i j (two o a b) = row_of o a b i j
row_over i j _ = free

abbrev pub row_carry_over : ℕ → ℕ → Tree → Definition
row_carry_over i j (two o a b) = row_carry_of o a b i j
row_carry_over i j _ = free

abbrev pub over_one : UnaryOp → Tree → Definition
over_one (unary.Bit i) t = bit_over i t
over_one (unary.CarryIn i) t = carry_over i t
over_one (unary.ProductRow i j) t = row_over i j t
over_one (unary.ProductCarry i j) t = row_carry_over i j t
over_one _ t = free

abbrev pub over_two : BinaryOp → Tree → Tree → Definition
over_two binary.And a b = table Both (a ∷ b ∷ [])
over_two binary.Or a b = table Either (a ∷ b ∷ [])
over_two binary.Equal a b = equal_of (out-Sort (tree_sort a)) a b
over_two binary.AddOverflows a b =
    table SumOverflows (bit_term a 63 ∷ bit_term b 63 ∷ bit_term (two binary.Add a b) 63 ∷ [])
over_two binary.SubtractOverflows a b =
    table DifferenceOverflows (bit_term a 63 ∷ bit_term b 63 ∷ bit_term (two binary.Subtract a b) 63 ∷ [])
over_two binary.MultiplyOverflows a b = record { shape = NotAll; inputs = upper_bits a b }
over_two binary.Less a b = table SignedBelow (bit_term a 63 ∷ bit_term b 63 ∷ two (binary.Low 63) a b ∷ [])
over_two binary.InRange a b = all (range_inputs a b)
over_two (binary.Low i) a b = low_at a b i
over_two _ a b = free

-- a choice is defined so where it is a truth value
abbrev pub chosen_of : Sort-F Sort → Tree → Tree → Tree → Definition
chosen_of s.Bool c a b = table Chosen (c ∷ a ∷ b ∷ [])
chosen_of _ c a b = free

-- of the constants `true` is defined
abbrev pub over_leaf : Leaf → Definition
over_leaf (Literal (bool true)) = fixed true
over_leaf _ = free

unfoldable pub definition : Tree → Definition
definition (leaf l) = over_leaf l
definition (one u a) = over_one u a
definition (two o a b) = over_two o a b
definition (choice c a b) = chosen_of (out-Sort (tree_sort a)) c a b
definition (many o ts) = free

abbrev pub shape_of : Tree → Shape
shape_of x = (definition x).shape

-- the terms that a definition names, in its order
abbrev pub inputs_of : Tree → List Tree
inputs_of x = (definition x).inputs
