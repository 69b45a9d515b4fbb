-- How many terms a definition names: of a truth table one, two or three, and never more than an address has bits.
use Rattle.std.proofs.Common.{◌≡◌, ◌≤◌, ℕ, zero, suc, Bool, true, [], ◌∷◌, map, length, ◌∙◌, arith}
use Rattle.std.proofs.lemmas.List.{length-map}
use Rattle.sc_sorts.specs.declared.sort.Sort.{Sort, Sort-F, out-Sort}
use Rattle.sc_sorts.specs.declared.sort.Sort.TheOpen as s
use Rattle.sc_sorts.specs.declared.node.Leaf.{Leaf}
use Rattle.sc_sorts.specs.declared.node.Leaf.TheVariants as leafs
use Rattle.sc_sorts.specs.declared.node.Literal.TheVariants as literals
use Rattle.sc_sorts.specs.declared.node.UnaryOp.{UnaryOp}
use Rattle.sc_sorts.specs.declared.node.UnaryOp.TheVariants as unary
use Rattle.sc_sorts.specs.declared.node.BinaryOp.{BinaryOp}
use Rattle.sc_sorts.specs.declared.node.BinaryOp.TheVariants as binary
use Rattle.sc_terms.specs.Trees.{Tree, leaf, one, two, choice, many}
use Rattle.sc_terms.specs.TreeSorts.{tree_sort}
use Rattle.sc_term_definitions.proofs.MakingLaws.{counted_length}
use Rattle.sc_term_definitions.specs.declared.function.Function.{Function}
use Rattle.sc_term_definitions.specs.declared.function.Shape.TheVariants.{Table}
use Rattle.sc_term_definitions.specs.Definitions.{Definition, definition, counted, upper_bits, agreements, carry_at, row_at, row_carry_at, low_at, equal_bits, equal_by_bits, equal_of, bit_over, carry_over, row_over, row_carry_over, over_one, over_two, over_leaf, chosen_of, shape_of, inputs_of}
use Rattle.th_defs.specs.Items.{HasInputs}

abbrev Fine : Definition → Type 0
Fine q = HasInputs q.shape (length q.inputs)

three : (f : Function) (turn : Bool) (a b c : Tree) → HasInputs (Table f turn) (length (a ∷ b ∷ c ∷ []))
three f turn a b c = (omega arith, omega arith)

mapped : (f : ℕ → Tree) (from n : ℕ) → length (map f (counted from n)) ≡ n
mapped f from n = length-map (counted from n) f ∙ counted_length from n

few : (f : ℕ → Tree) (from n : ℕ) → n ≤ 256 → length (map f (counted from n)) ≤ 256
few f from n h = let e = mapped f from n in omega (arith, h, e)

carry_fine : (o : BinaryOp) (a b : Tree) (i : ℕ) → Fine (carry_at o a b i)
carry_fine o a b zero = omega arith
carry_fine o a b (suc i) = (omega arith, omega arith)

row_fine : (a b : Tree) (i j : ℕ) → Fine (row_at a b i j)
row_fine a b zero j = omega arith
row_fine a b (suc i) j = (omega arith, omega arith)

row_carry_fine : (a b : Tree) (i j : ℕ) → Fine (row_carry_at a b i j)
row_carry_fine a b i zero = omega arith
row_carry_fine a b i (suc j) = (omega arith, omega arith)

low_fine : (a b : Tree) (i : ℕ) → Fine (low_at a b i)
low_fine a b zero = omega arith
low_fine a b (suc i) = (omega arith, omega arith)

bits_fine : (n : ℕ) (a b : Tree) → n ≤ 257 → Fine (equal_by_bits n a b)
bits_fine zero a b h = omega arith
bits_fine (suc n) a b h = let e : length (equal_bits a b (suc n)) ≡ suc n = length-map (counted 0 (suc n)) _ ∙ counted_length 0 (suc n) in omega (arith, e, h)

equal_fine : (k : Sort-F Sort) (a b : Tree) → Fine (equal_of k a b)
equal_fine s.Bool a b = (omega arith, omega arith)
equal_fine s.Long a b = bits_fine 64 a b (omega arith)
equal_fine s.Decimal a b = bits_fine 64 a b (omega arith)
equal_fine s.Ip a b = bits_fine 257 a b (omega arith)
equal_fine s.String a b = omega arith
equal_fine (s.Entity name us) a b = omega arith
equal_fine (s.Set member) a b = omega arith
equal_fine (s.Record fields) a b = omega arith
equal_fine (s.Option held) a b = omega arith

bit_fine : (i : ℕ) (t : Tree) → Fine (bit_over i t)
bit_fine i (two binary.Add a b) = (omega arith, omega arith)
bit_fine i (two binary.Subtract a b) = (omega arith, omega arith)
bit_fine i (two binary.Multiply a b) = (omega arith, omega arith)
bit_fine i _ = omega arith

carry_over_fine : (i : ℕ) (t : Tree) → Fine (carry_over i t)
carry_over_fine i (two binary.Add a b) = carry_fine binary.Add a b i
carry_over_fine i (two binary.Subtract a b) = carry_fine binary.Subtract a b i
carry_over_fine i _ = omega arith

row_over_fine : (i j : ℕ) (t : Tree) → Fine (row_over i j t)
row_over_fine i j (two binary.Multiply a b) = row_fine a b i j
row_over_fine i j _ = omega arith

row_carry_over_fine : (i j : ℕ) (t : Tree) → Fine (row_carry_over i j t)
row_carry_over_fine i j (two binary.Multiply a b) = row_carry_fine a b i j
row_carry_over_fine i j _ = omega arith

one_fine : (u : UnaryOp) (t : Tree) → Fine (over_one u t)
one_fine (unary.Bit i) t = bit_fine i t
one_fine (unary.CarryIn i) t = carry_over_fine i t
one_fine (unary.ProductRow i j) t = row_over_fine i j t
one_fine (unary.ProductCarry i j) t = row_carry_over_fine i j t
one_fine _ t = omega arith

two_fine : (o : BinaryOp) (a b : Tree) → Fine (over_two o a b)
two_fine binary.And a b = (omega arith, omega arith)
two_fine binary.Or a b = (omega arith, omega arith)
two_fine binary.Equal a b = equal_fine (out-Sort (tree_sort a)) a b
two_fine binary.AddOverflows a b = (omega arith, omega arith)
two_fine binary.SubtractOverflows a b = (omega arith, omega arith)
two_fine binary.MultiplyOverflows a b = let e : length (upper_bits a b) ≤ 256 = few _ 64 64 (omega arith) in omega (arith, e)
two_fine binary.Less a b = (omega arith, omega arith)
two_fine binary.InRange a b = let e : length (agreements a b) ≤ 256 = few _ 0 128 (omega arith) in omega (arith, e)
two_fine (binary.Low i) a b = low_fine a b i
two_fine _ a b = omega arith

leaf_fine : (l : Leaf) → Fine (over_leaf l)
leaf_fine (leafs.Literal (literals.Bool true)) = omega arith
leaf_fine _ = omega arith

chosen_fine : (k : Sort-F Sort) (c a b : Tree) → Fine (chosen_of k c a b)
chosen_fine s.Bool c a b = (omega arith, omega arith)
chosen_fine _ c a b = omega arith

pub has_inputs : (x : Tree) → HasInputs (shape_of x) (length (inputs_of x))
unfolding definition
has_inputs (leaf l) = leaf_fine l
has_inputs (one u a) = one_fine u a
has_inputs (two o a b) = two_fine o a b
has_inputs (choice c a b) = chosen_fine (out-Sort (tree_sort a)) c a b
has_inputs (many o ts) = omega arith
