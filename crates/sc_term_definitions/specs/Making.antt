-- Numbers of a table that are made one after the other, and the row of the table of definitions that a number's term
-- has. No public promise but those on what is put speaks of it.
use Rattle.std.specs.Prelude.{◌≡◌, ◌<◌, ◌≤◌, ℕ, Bool, true, false, ⊤, List, [], ◌∷◌, ◌++◌, map, length}
use Rattle.std.specs.List.{AllByRecursion}
use Rattle.sc_names.specs.declared.uid.Uid.{Uid}
use Rattle.sc_schema.specs.declared.declarations.Env.{Env}
use Rattle.sc_schema.specs.Declarations.{Declarations}
use Rattle.sc_sorts.specs.declared.sort.Sort.{Sort}
use Rattle.sc_sorts.specs.declared.node.Node.{Node}
use Rattle.sc_sorts.specs.declared.node.UnaryOp.TheVariants as unary
use Rattle.sc_sorts.specs.declared.node.BinaryOp.{BinaryOp}
use Rattle.sc_sorts.specs.declared.node.BinaryOp.TheVariants as binary
use Rattle.sc_terms.specs.Trees.{Tree, one, two}
use Rattle.sc_terms.specs.Tables.{tree, Keeps}
use Rattle.sc_terms.specs.TreeSorts.{tree_sort}
use Rattle.sc_terms.specs.Folds.{bit_term}
use Rattle.sc_term_laws.specs.Judging.{IsTermOf}
use Rattle.sc_term_definitions.specs.declared.function.Function.{Function}
use Rattle.sc_term_definitions.specs.declared.function.Function.TheVariants.{Itself, Chosen, SumOverflows, DifferenceOverflows, Below, SignedBelow}
use Rattle.sc_term_definitions.specs.declared.function.Shape.{Shape}
use Rattle.sc_term_definitions.specs.declared.function.Shape.TheVariants.{Table, All, NotAll, Fixed, Free}
use Rattle.sc_term_definitions.specs.declared.row.Row.{Row}
use Rattle.sc_term_definitions.specs.declared.row.Row.TheVariants as row
use Rattle.sc_term_definitions.specs.Definitions.{Definition, definition, bit_count, equal_bits, row_inputs, upper_bits, range_inputs}

-- what numbers of a table stand for
abbrev pub stood : List Node → List ℕ → List Tree
stood xs ns = map (tree xs) ns

-- Numbers are put behind others while the table grows, and stand for these terms.
pub record Puts (old new : List Node) (before after : List ℕ) (ts : List Tree) : Type 0 where
  pub kept : Keeps old new
  pub more : List ℕ
  pub is : after ≡ before ++ more
  pub within : AllByRecursion (λ n. n < length new) more
  pub stands : stood new more ≡ ts

-- a term of some sort, in some environment of some schema
pub record IsSomeTerm (x : Tree) : Type 0 where
  pub schema : Declarations
  pub env : Env
  pub written : List Uid
  pub sort : Sort
  pub is : IsTermOf schema env written sort x

-- a place of the bits that a number's term has
abbrev pub HasBit : List Node → ℕ → ℕ → Type 0
HasBit xs a i = i < bit_count (tree_sort (tree xs a))

-- ---- rows by the numbers of their terms

abbrev pub operator : Bool → BinaryOp
operator true = binary.Subtract
operator false = binary.Add

abbrev pub overflows : Bool → Function
overflows true = DifferenceOverflows
overflows false = SumOverflows

-- the inputs of a row
abbrev pub inputs_by : List Node → Row → List Tree
inputs_by xs row.Free = []
inputs_by xs (row.Fixed b) = []
inputs_by xs (row.Pair f a b) = tree xs a ∷ tree xs b ∷ []
inputs_by xs (row.Choice c a b) = tree xs c ∷ tree xs a ∷ tree xs b ∷ []
inputs_by xs (row.Bits count a b) = equal_bits (tree xs a) (tree xs b) count
inputs_by xs (row.Sum f difference s a b i) =
    bit_term (tree xs a) i ∷ bit_term (tree xs b) i
    ∷ one (unary.CarryIn i) (two (operator difference) (tree xs a) (tree xs b)) ∷ []
inputs_by xs (row.ProductBit m i) = one (unary.ProductRow 128 i) (tree xs m) ∷ []
inputs_by xs (row.Product f m a b i j) = row_inputs (tree xs a) (tree xs b) i j
inputs_by xs (row.Overflow difference a b) =
    bit_term (tree xs a) 63 ∷ bit_term (tree xs b) 63
    ∷ bit_term (two (operator difference) (tree xs a) (tree xs b)) 63 ∷ []
inputs_by xs (row.ProductOverflow a b) = upper_bits (tree xs a) (tree xs b)
inputs_by xs (row.Low a b i) =
    bit_term (tree xs a) i ∷ bit_term (tree xs b) i ∷ two (binary.Low i) (tree xs a) (tree xs b) ∷ []
inputs_by xs (row.Less a b) =
    bit_term (tree xs a) 63 ∷ bit_term (tree xs b) 63 ∷ two (binary.Low 63) (tree xs a) (tree xs b) ∷ []
inputs_by xs (row.Range a b) = range_inputs (tree xs a) (tree xs b)

abbrev pub shape_by : Row → Shape
shape_by row.Free = Free
shape_by (row.Fixed b) = Fixed b
shape_by (row.Pair f a b) = Table f false
shape_by (row.Choice c a b) = Table Chosen false
shape_by (row.Bits count a b) = All
shape_by (row.Sum f difference s a b i) = Table f difference
shape_by (row.ProductBit m i) = Table Itself false
shape_by (row.Product f m a b i j) = Table f false
shape_by (row.Overflow difference a b) = Table (overflows difference) false
shape_by (row.ProductOverflow a b) = NotAll
shape_by (row.Low a b i) = Table Below false
shape_by (row.Less a b) = Table SignedBelow false
shape_by (row.Range a b) = All

-- how many there are
abbrev pub count_by : Row → ℕ
count_by row.Free = 0
count_by (row.Fixed b) = 0
count_by (row.Pair f a b) = 2
count_by (row.Choice c a b) = 3
count_by (row.Bits count a b) = count
count_by (row.Sum f difference s a b i) = 3
count_by (row.ProductBit m i) = 1
count_by (row.Product f m a b i j) = 3
count_by (row.Overflow difference a b) = 3
count_by (row.ProductOverflow a b) = 64
count_by (row.Low a b i) = 3
count_by (row.Less a b) = 3
count_by (row.Range a b) = 129

abbrev pub definition_by : List Node → Row → Definition
definition_by xs r = record { shape = shape_by r; inputs = inputs_by xs r }

-- the numbers of a row are of the table, and that of a sum, a difference or a product stands for what its parts make
abbrev pub Stands : List Node → Row → Type 0
Stands xs row.Free = ⊤
Stands xs (row.Fixed b) = ⊤
Stands xs (row.Pair f a b) = (a < length xs) × (b < length xs)
Stands xs (row.Choice c a b) = (c < length xs) × (a < length xs) × (b < length xs)
Stands xs (row.Bits count a b) = (a < length xs) × (b < length xs)
Stands xs (row.Sum f difference s a b i) = (s < length xs) × (a < length xs) × (b < length xs)
    × (tree xs s ≡ two (operator difference) (tree xs a) (tree xs b))
Stands xs (row.ProductBit m i) = m < length xs
Stands xs (row.Product f m a b i j) = (m < length xs) × (a < length xs) × (b < length xs)
    × (tree xs m ≡ two binary.Multiply (tree xs a) (tree xs b))
Stands xs (row.Overflow difference a b) = (a < length xs) × (b < length xs)
Stands xs (row.ProductOverflow a b) = (a < length xs) × (b < length xs)
Stands xs (row.Low a b i) = (a < length xs) × (b < length xs)
Stands xs (row.Less a b) = (a < length xs) × (b < length xs)
Stands xs (row.Range a b) = (a < length xs) × (b < length xs)

-- the bits that a row names are bits of its terms
abbrev pub HasPlaces : List Node → Row → Type 0
HasPlaces xs row.Free = ⊤
HasPlaces xs (row.Fixed b) = ⊤
HasPlaces xs (row.Pair f a b) = ⊤
HasPlaces xs (row.Choice c a b) = ⊤
HasPlaces xs (row.Bits count a b) = (count ≤ bit_count (tree_sort (tree xs a)))
    × (count ≤ bit_count (tree_sort (tree xs b)))
HasPlaces xs (row.Sum f difference s a b i) = HasBit xs a i × HasBit xs b i
HasPlaces xs (row.ProductBit m i) = ⊤
HasPlaces xs (row.Product f m a b i j) = HasBit xs a 63 × HasBit xs b 63
HasPlaces xs (row.Overflow difference a b) = HasBit xs a 63 × HasBit xs b 63
HasPlaces xs (row.ProductOverflow a b) = ⊤
HasPlaces xs (row.Low a b i) = HasBit xs a i × HasBit xs b i
HasPlaces xs (row.Less a b) = HasBit xs a 63 × HasBit xs b 63
HasPlaces xs (row.Range a b) = HasBit xs a 256 × HasBit xs b 256

-- the row of a term
pub record IsRowOf (xs : List Node) (x : Tree) (r : Row) : Type 0 where
  pub defines : definition x ≡ definition_by xs r
  pub stands : Stands xs r
  pub places : IsSomeTerm x → HasPlaces xs r
