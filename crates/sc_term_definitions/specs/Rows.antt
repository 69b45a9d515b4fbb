-- The row of the table of definitions that a node has, told from the numbers of its parts, and from the node or the
-- sort of its first part. No public promise speaks of it.
use Rattle.std.specs.Prelude.{◌-◌, ◌==◌, ℕ, Bool, true, false, if◌then◌else◌}
use Rattle.sc_sorts.specs.declared.sort.Sort.{Sort, Sort-F, out-Sort}
use Rattle.sc_sorts.specs.declared.sort.Sort.TheOpen as s
use Rattle.sc_sorts.specs.declared.node.Leaf.{Leaf}
use Rattle.sc_sorts.specs.declared.node.Leaf.TheVariants.{Literal}
use Rattle.sc_sorts.specs.declared.node.Literal.TheVariants.{Bool as bool}
use Rattle.sc_sorts.specs.declared.node.Node.{Node}
use Rattle.sc_sorts.specs.declared.node.Node.TheVariants as node
use Rattle.sc_sorts.specs.declared.node.UnaryOp.{UnaryOp}
use Rattle.sc_sorts.specs.declared.node.UnaryOp.TheVariants as unary
use Rattle.sc_sorts.specs.declared.node.BinaryOp.{BinaryOp}
use Rattle.sc_sorts.specs.declared.node.BinaryOp.TheVariants as binary
use Rattle.sc_term_definitions.specs.declared.function.Function.TheVariants.{Both, Either, Same, Odd, Majority}
use Rattle.sc_term_definitions.specs.declared.row.Row.{Row}
use Rattle.sc_term_definitions.specs.declared.row.Row.TheVariants as row
use Rattle.sc_term_definitions.specs.Definitions.{bits_in}

abbrev pub leaf_row : Leaf → Row
leaf_row (Literal (bool true)) = row.Fixed true
leaf_row _ = row.Free

-- ---- bits, carries and rows of a sum, a difference or a product of this number

abbrev pub bit_row_of : BinaryOp → ℕ → ℕ → ℕ → ℕ → Row
bit_row_of binary.Add t a b i = row.Sum Odd false t a b i
bit_row_of binary.Subtract t a b i = row.Sum Odd true t a b i
bit_row_of binary.Multiply t a b i = row.ProductBit t i
bit_row_of _ t a b i = row.Free

abbrev pub carry_row_at : Bool → ℕ → ℕ → ℕ → ℕ → Row
carry_row_at difference t a b i = if i == 0 then row.Fixed difference else row.Sum Majority difference t a b (i - 1)

abbrev pub carry_row_of : BinaryOp → ℕ → ℕ → ℕ → ℕ → Row
carry_row_of binary.Add t a b i = carry_row_at false t a b i
carry_row_of binary.Subtract t a b i = carry_row_at true t a b i
carry_row_of _ t a b i = row.Free

abbrev pub partial_row_at : ℕ → ℕ → ℕ → ℕ → ℕ → Row
partial_row_at t a b i j = if i == 0 then row.Fixed false else row.Product Odd t a b (i - 1) j

abbrev pub partial_row_of : BinaryOp → ℕ → ℕ → ℕ → ℕ → ℕ → Row
partial_row_of binary.Multiply t a b i j = partial_row_at t a b i j
partial_row_of _ t a b i j = row.Free

abbrev pub partial_carry_at : ℕ → ℕ → ℕ → ℕ → ℕ → Row
partial_carry_at t a b i j = if j == 0 then row.Fixed false else row.Product Majority t a b i (j - 1)

abbrev pub partial_carry_of : BinaryOp → ℕ → ℕ → ℕ → ℕ → ℕ → Row
partial_carry_of binary.Multiply t a b i j = partial_carry_at t a b i j
partial_carry_of _ t a b i j = row.Free

abbrev pub bit_row : ℕ → Node → ℕ → Row
bit_row t (node.Two o a b) i = bit_row_of o t a b i
bit_row t _ i = row.Free

abbrev pub carry_row : ℕ → Node → ℕ → Row
carry_row t (node.Two o a b) i = carry_row_of o t a b i
carry_row t _ i = row.Free

abbrev pub partial_row : ℕ → Node → ℕ → ℕ → Row
partial_row t (node.Two o a b) i j = partial_row_of o t a b i j
partial_row t _ i j = row.Free

abbrev pub partial_carry : ℕ → Node → ℕ → ℕ → Row
partial_carry t (node.Two o a b) i j = partial_carry_of o t a b i j
partial_carry t _ i j = row.Free

abbrev pub one_row : UnaryOp → ℕ → Node → Row
one_row (unary.Bit i) t n = bit_row t n i
one_row (unary.CarryIn i) t n = carry_row t n i
one_row (unary.ProductRow i j) t n = partial_row t n i j
one_row (unary.ProductCarry i j) t n = partial_carry t n i j
one_row _ t n = row.Free

-- ---- two terms, the first of a sort

abbrev pub bits_row : ℕ → ℕ → ℕ → Row
bits_row count a b = if count == 0 then row.Free else row.Bits count a b

abbrev pub equal_row : Sort-F Sort → ℕ → ℕ → Row
equal_row s.Bool a b = row.Pair Same a b
equal_row k a b = bits_row (bits_in k) a b

abbrev pub low_row : ℕ → ℕ → ℕ → Row
low_row a b i = if i == 0 then row.Fixed false else row.Low a b (i - 1)

abbrev pub two_row : BinaryOp → ℕ → ℕ → Sort → Row
two_row binary.And a b k = row.Pair Both a b
two_row binary.Or a b k = row.Pair Either a b
two_row binary.Equal a b k = equal_row (out-Sort k) a b
two_row binary.AddOverflows a b k = row.Overflow false a b
two_row binary.SubtractOverflows a b k = row.Overflow true a b
two_row binary.MultiplyOverflows a b k = row.ProductOverflow a b
two_row binary.Less a b k = row.Less a b
two_row binary.InRange a b k = row.Range a b
two_row (binary.Low i) a b k = low_row a b i
two_row _ a b k = row.Free

abbrev pub choice_row : ℕ → ℕ → ℕ → Sort-F Sort → Row
choice_row c a b s.Bool = row.Choice c a b
choice_row c a b _ = row.Free
