-- The row that is read from a node is that of its term.
use Rattle.std.proofs.Common.{◌≡◌, ◌<◌, ◌≤◌, ◌-◌, ◌&&◌, ℕ, zero, suc, Bool, true, false, List, [], ◌∷◌, length, refl, sym, ap, ◌∙◌, subst, arith}
use Rattle.std.proofs.Math.Dec.{eqb-suc-zero}
use Rattle.sc_laws.proofs.NumberLaws.{at_most}
use Rattle.sc_laws.proofs.BoolLaws.{and_first, and_second}
use Rattle.sc_sorts.specs.declared.sort.Sort.{Sort, Sort-F, out-Sort}
use Rattle.sc_sorts.specs.declared.sort.Sort.TheVariants as sort
use Rattle.sc_sorts.specs.declared.sort.Sort.TheOpen as s
use Rattle.sc_sorts.proofs.OutLaws.{out_Long, out_Decimal, out_Ip}
use Rattle.sc_sorts.specs.declared.node.Leaf.{Leaf}
use Rattle.sc_sorts.specs.declared.node.Leaf.TheVariants.{Literal}
use Rattle.sc_sorts.specs.declared.node.Literal.TheVariants.{Bool as bool}
use Rattle.sc_sorts.specs.declared.node.Node.{Node}
use Rattle.sc_sorts.specs.declared.node.Node.TheVariants as node
use Rattle.sc_sorts.specs.declared.node.UnaryOp.{UnaryOp}
use Rattle.sc_sorts.specs.declared.node.UnaryOp.TheVariants as unary
use Rattle.sc_sorts.specs.declared.node.BinaryOp.{BinaryOp}
use Rattle.sc_sorts.specs.declared.node.BinaryOp.TheVariants as binary
use Rattle.sc_sorts.specs.declared.node.ManyOp.{ManyOp}
use Rattle.sc_terms.specs.Trees.{Tree, leaf, one, two, choice}
use Rattle.sc_terms.specs.Tables.{Places, tree, node_tree, PartsAreBelow}
use Rattle.sc_terms.specs.TreeSorts.{tree_sort}
use Rattle.sc_term_laws.specs.Judging.{IsNumberSort, long, decimal}
use Rattle.sc_term_laws.specs.Tests.{both_long, both_numbers, is_ip, is_long, is_number, is_sum, has_place}
use Rattle.sc_term_laws.proofs.BinaryJudged.{binary_kept}
use Rattle.sc_term_laws.proofs.TestLaws as test
use Rattle.sc_term_laws.proofs.UnaryJudged.{unary_kept}
use Rattle.sc_term_definitions.specs.declared.row.Row.{Row}
use Rattle.sc_term_definitions.specs.declared.row.Row.TheVariants as row
use Rattle.sc_term_definitions.specs.Definitions.{definition, fixed, free, table, bits_in, bit_count, equal_by_bits}
use Rattle.sc_term_definitions.specs.declared.function.Function.TheVariants.{Itself}
use Rattle.sc_term_definitions.specs.Making.{IsSomeTerm, IsRowOf}
use Rattle.sc_term_definitions.specs.Rows.{leaf_row, bit_row_of, carry_row_of, partial_row_of, partial_carry_of, one_row, bits_row, equal_row, low_row, two_row, choice_row}
use Rattle.sc_term_definitions.proofs.PartLaws.{long_place, carry_place}

-- ---- bits that terms have

places_of : (k : Sort) (x : Sort-F Sort) → out-Sort k ≡ x → bit_count k ≡ bits_in x
places_of k x e = ap bits_in e

long_places : (k : Sort) → is_long k ≡ true → bit_count k ≡ 64
long_places k h = ap bit_count (test.long_sort k h) ∙ places_of sort.Long s.Long out_Long

ip_places : (k : Sort) → is_ip k ≡ true → bit_count k ≡ 257
ip_places k h = ap bit_count (test.ip_sort k h) ∙ places_of sort.Ip s.Ip out_Ip

number_sorts : (k : Sort) → IsNumberSort k → bit_count k ≡ 64
number_sorts _ long = places_of sort.Long s.Long out_Long
number_sorts _ decimal = places_of sort.Decimal s.Decimal out_Decimal

number_places : (k : Sort) → is_number k ≡ true → bit_count k ≡ 64
number_places k h = number_sorts k (test.number_sort k h)

module _ (k l : Sort) where
  long_pair : both_long k l ≡ true → (i : ℕ) → i < 64 → (i < bit_count k) × (i < bit_count l)
  long_pair t i h =
      let first : bit_count k ≡ 64 = long_places k (and_first _ _ t) in
      let second : bit_count l ≡ 64 = long_places l (and_second (is_long k) _ t) in
      (omega (arith, first, h), omega (arith, second, h))

  number_pair : both_numbers k l ≡ true → (i : ℕ) → i < 64 → (i < bit_count k) × (i < bit_count l)
  number_pair t i h =
      let first : bit_count k ≡ 64 = number_places k (and_first _ _ t) in
      let same : bit_count k ≡ bit_count l = ap bit_count (test.same_sorts k l (and_second (is_number k) _ t)) in
      (omega (arith, first, h), omega (arith, first, same, h))

  ip_pair : (is_ip k && is_ip l) ≡ true → (256 < bit_count k) × (256 < bit_count l)
  ip_pair t =
      let first : bit_count k ≡ 257 = ip_places k (and_first _ _ t) in
      let second : bit_count l ≡ 257 = ip_places l (and_second (is_ip k) _ t) in
      (omega (arith, first), omega (arith, second))

module _ (xs : List Node) where
  -- ---- rows of constants

  free_row : (x : Tree) → definition x ≡ free → IsRowOf xs x row.Free
  free_row x e = record { defines = e; stands = tt; places = λ h. tt }

  fixed_row : (b : Bool) (x : Tree) → definition x ≡ fixed b → IsRowOf xs x (row.Fixed b)
  fixed_row b x e = record { defines = e; stands = tt; places = λ h. tt }

  pub leaf_is : (l : Leaf) → IsRowOf xs (leaf l) (leaf_row l)
  unfolding definition
  leaf_is (Literal (bool true)) = fixed_row true _ refl
  leaf_is _ = free_row _ refl

  -- ---- bits, carries and rows

  module _ (t a b : ℕ) (t_in : t < length xs) (a_in : a < length xs) (b_in : b < length xs) where
    abbrev A : Tree
    A = tree xs a

    abbrev B : Tree
    B = tree xs b

    sum_kinds : IsSomeTerm (two binary.Add A B) → both_long (tree_sort A) (tree_sort B) ≡ true
    sum_kinds h = (binary_kept h.schema h.env h.written h.sort binary.Add A B h.is).2

    difference_kinds : IsSomeTerm (two binary.Subtract A B) → both_long (tree_sort A) (tree_sort B) ≡ true
    difference_kinds h = (binary_kept h.schema h.env h.written h.sort binary.Subtract A B h.is).2

    product_kinds : IsSomeTerm (two binary.Multiply A B) → both_long (tree_sort A) (tree_sort B) ≡ true
    product_kinds h = (binary_kept h.schema h.env h.written h.sort binary.Multiply A B h.is).2

    -- the term under an operator
    under : (u : UnaryOp) (x : Tree) → IsSomeTerm (one u x) → IsSomeTerm x
    under u x h = record { schema = h.schema; env = h.env; written = h.written; sort = tree_sort x; is = (unary_kept h.schema h.env h.written h.sort u x h.is).0 }

    bit_place : (i : ℕ) (x : Tree) → tree_sort x ≡ sort.Long → IsSomeTerm (one (unary.Bit i) x) → i < 64
    bit_place i x e h = long_place i (ap (λ (k : Sort). has_place k i) (sym e) ∙ and_first _ _ (unary_kept h.schema h.env h.written h.sort (unary.Bit i) x h.is).1)

    bit_of_is : (o : BinaryOp) (i : ℕ) → tree xs t ≡ two o A B → IsRowOf xs (one (unary.Bit i) (two o A B)) (bit_row_of o t a b i)
    unfolding definition tree_sort
    bit_of_is binary.Add i e = record {
      defines = refl;
      stands = (t_in, a_in, b_in, e);
      places = λ h. long_pair (tree_sort A) (tree_sort B) (sum_kinds (under (unary.Bit i) (two binary.Add A B) h)) i (bit_place i (two binary.Add A B) refl h);
    }
    bit_of_is binary.Subtract i e = record {
      defines = refl;
      stands = (t_in, a_in, b_in, e);
      places = λ h. long_pair (tree_sort A) (tree_sort B) (difference_kinds (under (unary.Bit i) (two binary.Subtract A B) h)) i (bit_place i (two binary.Subtract A B) refl h);
    }
    bit_of_is binary.Multiply i e = record { defines = ap (λ (x : Tree). table Itself (one (unary.ProductRow 128 i) x ∷ [])) (sym e); stands = t_in; places = λ h. tt }
    bit_of_is _ i e = free_row _ refl

    -- a place of a carry is one more than that of the bits
    below : (i : ℕ) (x : Tree) → IsSomeTerm (one (unary.CarryIn (suc i)) x) → i < 64
    below i x h =
        let p = unary_kept h.schema h.env h.written h.sort (unary.CarryIn (suc i)) x h.is in
        let l : suc i ≤ 64 = at_most (suc i) 64 (and_second (is_sum x) _ p.1) in
        omega (arith, l)

    carry_of_is : (o : BinaryOp) (i : ℕ) → tree xs t ≡ two o A B → IsRowOf xs (one (unary.CarryIn i) (two o A B)) (carry_row_of o t a b i)
    unfolding definition
    carry_of_is binary.Add zero e = fixed_row false _ refl
    carry_of_is binary.Add (suc i) e =
        let less : suc i - 1 ≡ i = omega arith in
        rw (eqb-suc-zero i, less)
        (record {
          defines = refl;
          stands = (t_in, a_in, b_in, e);
          places = λ h. long_pair (tree_sort A) (tree_sort B) (sum_kinds (under (unary.CarryIn (suc i)) (two binary.Add A B) h)) i (below i (two binary.Add A B) h);
        })
    carry_of_is binary.Subtract zero e = fixed_row true _ refl
    carry_of_is binary.Subtract (suc i) e =
        let less : suc i - 1 ≡ i = omega arith in
        rw (eqb-suc-zero i, less)
        (record {
          defines = refl;
          stands = (t_in, a_in, b_in, e);
          places = λ h. long_pair (tree_sort A) (tree_sort B) (difference_kinds (under (unary.CarryIn (suc i)) (two binary.Subtract A B) h)) i (below i (two binary.Subtract A B) h);
        })
    carry_of_is _ i e = free_row _ refl

    partial_row_is : (o : BinaryOp) (i j : ℕ) → tree xs t ≡ two o A B → IsRowOf xs (one (unary.ProductRow i j) (two o A B)) (partial_row_of o t a b i j)
    unfolding definition
    partial_row_is binary.Multiply zero j e = fixed_row false _ refl
    partial_row_is binary.Multiply (suc i) j e =
        let less : suc i - 1 ≡ i = omega arith in
        rw (eqb-suc-zero i, less)
        (record {
          defines = refl;
          stands = (t_in, a_in, b_in, e);
          places = λ h. long_pair (tree_sort A) (tree_sort B) (product_kinds (under (unary.ProductRow (suc i) j) (two binary.Multiply A B) h)) 63 (omega arith);
        })
    partial_row_is _ i j e = free_row _ refl

    partial_carry_is : (o : BinaryOp) (i j : ℕ) → tree xs t ≡ two o A B → IsRowOf xs (one (unary.ProductCarry i j) (two o A B)) (partial_carry_of o t a b i j)
    unfolding definition
    partial_carry_is binary.Multiply i zero e = fixed_row false _ refl
    partial_carry_is binary.Multiply i (suc j) e =
        let less : suc j - 1 ≡ j = omega arith in
        rw (eqb-suc-zero j, less)
        (record {
          defines = refl;
          stands = (t_in, a_in, b_in, e);
          places = λ h. long_pair (tree_sort A) (tree_sort B) (product_kinds (under (unary.ProductCarry i (suc j)) (two binary.Multiply A B) h)) 63 (omega arith);
        })
    partial_carry_is _ i j e = free_row _ refl

    -- an operator on a term of two parts
    two_under : (u : UnaryOp) (o : BinaryOp) → tree xs t ≡ two o A B → IsRowOf xs (one u (two o A B)) (one_row u t (node.Two o a b))
    unfolding definition
    two_under (unary.Bit i) o e = bit_of_is o i e
    two_under (unary.CarryIn i) o e = carry_of_is o i e
    two_under (unary.ProductRow i j) o e = partial_row_is o i j e
    two_under (unary.ProductCarry i j) o e = partial_carry_is o i j e
    two_under _ o e = free_row _ refl

  -- on another term
  other_under : (u : UnaryOp) (t : ℕ) (n : Node) → IsRowOf xs (one u (node_tree xs n)) (one_row u t n) → tree xs t ≡ node_tree xs n → IsRowOf xs (one u (tree xs t)) (one_row u t n)
  other_under u t n h e = subst (λ (x : Tree). IsRowOf xs (one u x) (one_row u t n)) (sym e) h

  leaf_under : (u : UnaryOp) (t : ℕ) (l : Leaf) → IsRowOf xs (one u (leaf l)) (one_row u t (node.Leaf l))
  unfolding definition
  leaf_under (unary.Bit i) t l = free_row _ refl
  leaf_under (unary.CarryIn i) t l = free_row _ refl
  leaf_under (unary.ProductRow i j) t l = free_row _ refl
  leaf_under (unary.ProductCarry i j) t l = free_row _ refl
  leaf_under _ t l = free_row _ refl

  pub one_is : (u : UnaryOp) (t : ℕ) (n : Node) → t < length xs → tree xs t ≡ node_tree xs n → PartsAreBelow (length xs) n → IsRowOf xs (one u (tree xs t)) (one_row u t n)
  unfolding definition
  one_is u t (node.Two o a b) t_in e p = other_under u t (node.Two o a b) (two_under t a b t_in p.0 p.1 u o e) e
  one_is u t (node.Leaf l) t_in e p = other_under u t (node.Leaf l) (leaf_under u t l) e
  one_is u t (node.One v a) t_in e p = other_under u t (node.One v a) (by u) e
    where
      by : (u : UnaryOp) → IsRowOf xs (one u (one v (tree xs a))) (one_row u t (node.One v a))
      by (unary.Bit i) = free_row _ refl
      by (unary.CarryIn i) = free_row _ refl
      by (unary.ProductRow i j) = free_row _ refl
      by (unary.ProductCarry i j) = free_row _ refl
      by _ = free_row _ refl
  one_is u t (node.Choice c a b) t_in e p = other_under u t (node.Choice c a b) (by u) e
    where
      by : (u : UnaryOp) → IsRowOf xs (one u (node_tree xs (node.Choice c a b))) (one_row u t (node.Choice c a b))
      by (unary.Bit i) = free_row _ refl
      by (unary.CarryIn i) = free_row _ refl
      by (unary.ProductRow i j) = free_row _ refl
      by (unary.ProductCarry i j) = free_row _ refl
      by _ = free_row _ refl
  one_is u t (node.Many o ps) t_in e p = other_under u t (node.Many o ps) (by u) e
    where
      by : (u : UnaryOp) → IsRowOf xs (one u (node_tree xs (node.Many o ps))) (one_row u t (node.Many o ps))
      by (unary.Bit i) = free_row _ refl
      by (unary.CarryIn i) = free_row _ refl
      by (unary.ProductRow i j) = free_row _ refl
      by (unary.ProductCarry i j) = free_row _ refl
      by _ = free_row _ refl

  -- ---- two terms

  module _ (a b : ℕ) (a_in : a < length xs) (b_in : b < length xs) where
    abbrev First : Tree
    First = tree xs a

    abbrev Second : Tree
    Second = tree xs b

    abbrev K : Sort
    K = tree_sort (tree xs a)

    abbrev L : Sort
    L = tree_sort (tree xs b)

    equal_sorts : IsSomeTerm (two binary.Equal First Second) → K ≡ L
    equal_sorts h = test.same_sorts K L (and_first _ _ (binary_kept h.schema h.env h.written h.sort binary.Equal First Second h.is).2)

    less_kinds : IsSomeTerm (two binary.Less First Second) → both_numbers K L ≡ true
    less_kinds h = (binary_kept h.schema h.env h.written h.sort binary.Less First Second h.is).2

    low_kinds : (i : ℕ) → IsSomeTerm (two (binary.Low i) First Second) → both_numbers K L ≡ true
    low_kinds i h = and_first _ _ (binary_kept h.schema h.env h.written h.sort (binary.Low i) First Second h.is).2

    low_place : (i : ℕ) → IsSomeTerm (two (binary.Low i) First Second) → i ≤ 64
    low_place i h = carry_place (both_numbers K L) i (binary_kept h.schema h.env h.written h.sort (binary.Low i) First Second h.is).2

    range_kinds : IsSomeTerm (two binary.InRange First Second) → (is_ip K && is_ip L) ≡ true
    range_kinds h = (binary_kept h.schema h.env h.written h.sort binary.InRange First Second h.is).2

    sum_overflow_kinds : IsSomeTerm (two binary.AddOverflows First Second) → both_long K L ≡ true
    sum_overflow_kinds h = (binary_kept h.schema h.env h.written h.sort binary.AddOverflows First Second h.is).2

    difference_overflow_kinds : IsSomeTerm (two binary.SubtractOverflows First Second) → both_long K L ≡ true
    difference_overflow_kinds h = (binary_kept h.schema h.env h.written h.sort binary.SubtractOverflows First Second h.is).2

    -- an equation of so many bits as the sort has
    bits_is : (count : ℕ) → definition (two binary.Equal First Second) ≡ equal_by_bits count First Second → bit_count K ≡ count → IsRowOf xs (two binary.Equal First Second) (bits_row count a b)
    bits_is zero e k = free_row _ e
    bits_is (suc n) e k =
        rw (eqb-suc-zero n)
        (record {
          defines = e;
          stands = (a_in, b_in);
          places = λ h. let same : bit_count K ≡ bit_count L = ap bit_count (equal_sorts h) in (omega (arith, k), omega (arith, k, same));
        })

    equal_is : (k : Sort-F Sort) → out-Sort K ≡ k → IsRowOf xs (two binary.Equal First Second) (equal_row k a b)
    unfolding definition
    equal_is s.Bool e = record { defines = rw e refl; stands = (a_in, b_in); places = λ h. tt }
    equal_is s.Long e = bits_is 64 (rw e refl) (ap bits_in e)
    equal_is s.Decimal e = bits_is 64 (rw e refl) (ap bits_in e)
    equal_is s.Ip e = bits_is 257 (rw e refl) (ap bits_in e)
    equal_is s.String e = free_row _ (rw e refl)
    equal_is (s.Entity name us) e = free_row _ (rw e refl)
    equal_is (s.Set member) e = free_row _ (rw e refl)
    equal_is (s.Record fields) e = free_row _ (rw e refl)
    equal_is (s.Option held) e = free_row _ (rw e refl)

    low_is : (i : ℕ) → IsRowOf xs (two (binary.Low i) First Second) (low_row a b i)
    unfolding definition
    low_is zero = fixed_row false _ refl
    low_is (suc i) =
        let less : suc i - 1 ≡ i = omega arith in
        rw (eqb-suc-zero i, less)
        (record {
          defines = refl;
          stands = (a_in, b_in);
          places = λ h. number_pair K L (low_kinds (suc i) h) i (let l : suc i ≤ 64 = low_place (suc i) h in omega (arith, l));
        })

    pub two_is : (o : BinaryOp) → IsRowOf xs (two o First Second) (two_row o a b K)
    unfolding definition
    two_is binary.And = record { defines = refl; stands = (a_in, b_in); places = λ h. tt }
    two_is binary.Or = record { defines = refl; stands = (a_in, b_in); places = λ h. tt }
    two_is binary.Equal = equal_is (out-Sort K) refl
    two_is binary.AddOverflows = record { defines = refl; stands = (a_in, b_in); places = λ h. long_pair K L (sum_overflow_kinds h) 63 (omega arith) }
    two_is binary.SubtractOverflows = record { defines = refl; stands = (a_in, b_in); places = λ h. long_pair K L (difference_overflow_kinds h) 63 (omega arith) }
    two_is binary.MultiplyOverflows = record { defines = refl; stands = (a_in, b_in); places = λ h. tt }
    two_is binary.Less = record { defines = refl; stands = (a_in, b_in); places = λ h. number_pair K L (less_kinds h) 63 (omega arith) }
    two_is binary.InRange = record { defines = refl; stands = (a_in, b_in); places = λ h. ip_pair K L (range_kinds h) }
    two_is (binary.Low i) = low_is i
    two_is _ = free_row _ refl

    choice_by : (c : ℕ) → c < length xs → (k : Sort-F Sort) → out-Sort K ≡ k → IsRowOf xs (choice (tree xs c) First Second) (choice_row c a b k)
    unfolding definition
    choice_by c c_in s.Bool e = record { defines = rw e refl; stands = (c_in, a_in, b_in); places = λ h. tt }
    choice_by c c_in _ e = free_row _ (rw e refl)

    pub choice_is : (c : ℕ) → c < length xs → IsRowOf xs (choice (tree xs c) First Second) (choice_row c a b (out-Sort K))
    choice_is c c_in = choice_by c c_in (out-Sort K) refl

  -- ---- the row of a term, told from the node that its number has

  pub row_leaf : (x : Tree) (n : Node) (l : Leaf) (r : Row) → x ≡ node_tree xs n → n ≡ node.Leaf l → r ≡ leaf_row l → IsRowOf xs x r
  row_leaf x n l r e f g = rw (e, f, g) (leaf_is l)

  pub row_one : (x : Tree) (n m : Node) (u : UnaryOp) (t : ℕ) (r : Row) → x ≡ node_tree xs n → n ≡ node.One u t → PartsAreBelow (length xs) n → tree xs t ≡ node_tree xs m
      → PartsAreBelow (length xs) m → r ≡ one_row u t m → IsRowOf xs x r
  row_one x n m u t r e f p g q h = rw (e, f, h) (one_is u t m (subst (PartsAreBelow (length xs)) f p) g q)

  pub row_two : (x : Tree) (n : Node) (o : BinaryOp) (a b : ℕ) (k : Sort) (r : Row) → x ≡ node_tree xs n → n ≡ node.Two o a b → PartsAreBelow (length xs) n → k ≡ tree_sort (tree xs a)
      → r ≡ two_row o a b k → IsRowOf xs x r
  row_two x n o a b k r e f p s h = let within = subst (PartsAreBelow (length xs)) f p in rw (e, f, h, s) (two_is a b within.0 within.1 o)

  pub row_choice : (x : Tree) (n : Node) (c a b : ℕ) (k : Sort) (r : Row) → x ≡ node_tree xs n → n ≡ node.Choice c a b → PartsAreBelow (length xs) n → k ≡ tree_sort (tree xs a)
      → r ≡ choice_row c a b (out-Sort k) → IsRowOf xs x r
  row_choice x n c a b k r e f p s h = let within = subst (PartsAreBelow (length xs)) f p in rw (e, f, h, s) (choice_is a b within.1 within.2 c within.0)

  pub row_many : (x : Tree) (n : Node) (o : ManyOp) (ps : Places) → x ≡ node_tree xs n → n ≡ node.Many o ps → IsRowOf xs x row.Free
  unfolding definition
  row_many x n o ps e f = rw (e, f) (free_row _ refl)
