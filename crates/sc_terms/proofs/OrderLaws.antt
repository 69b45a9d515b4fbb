-- The order of terms is total, and level terms are one.
use Rattle.std.proofs.Common.{◌≡◌, ◌↔◌, ℕ, true, false, cond, [], ◌∷◌, refl, sym, ap, ◌∙◌, subst, arith, nat_eq, nat_le}
use Rattle.std.proofs.lemmas.Bool.Decides.{nat_tests}
use Rattle.std.specs.List.{list_any}
use Rattle.std.specs.declared.cmp.Ordering.{Ordering}
use Rattle.std.specs.declared.cmp.Ordering.TheVariants.{Less, Equal, Greater}
use Rattle.std.specs.Ordering.{nat_cmp, ordering_then, ordering_reverse, is_eq}
use Rattle.std.specs.Cmp.{nat_cmp_total, IsTotalOrder, Equal-is, tied_itself}
use Rattle.sc_lists.proofs.OrderingLaws.{ordering_then_equal}
use Rattle.sc_sorts.specs.declared.node.Leaf.{Leaf}
use Rattle.sc_sorts.specs.declared.node.Leaf.TheVariants as leafs
use Rattle.sc_sorts.specs.declared.node.Literal.TheVariants as literal
use Rattle.sc_sorts.specs.declared.node.UnaryOp.{UnaryOp}
use Rattle.sc_sorts.specs.declared.node.UnaryOp.TheVariants as unary
use Rattle.sc_sorts.specs.declared.node.BinaryOp.{BinaryOp}
use Rattle.sc_sorts.specs.declared.node.BinaryOp.TheVariants as binary
use Rattle.sc_sorts.specs.contracts.node.LeafOrd.TheImpl.{ghosts as leaf_ord}
use Rattle.sc_sorts.specs.contracts.node.UnaryOpOrd.TheImpl.{ghosts as unary_ord}
use Rattle.sc_sorts.specs.contracts.node.BinaryOpOrd.TheImpl.{ghosts as binary_ord}
use Rattle.sc_sorts.specs.contracts.node.LeafOrd.TheImpl.Laws.{matches_eq-law as leaf_level, total-law as leaf_total}
use Rattle.sc_sorts.specs.contracts.node.UnaryOpOrd.TheImpl.Laws.{matches_eq-law as unary_level, total-law as unary_total}
use Rattle.sc_sorts.specs.contracts.node.BinaryOpOrd.TheImpl.Laws.{matches_eq-law as binary_level, total-law as binary_total}
use Rattle.sc_sorts.specs.declared.node.ManyOp.{ManyOp}
use Rattle.sc_sorts.specs.declared.node.ManyOp.TheVariants as manys
use Rattle.sc_sorts.specs.contracts.node.ManyOpOrd.TheImpl.{ghosts as many_ord}
use Rattle.sc_sorts.specs.contracts.node.ManyOpOrd.TheImpl.Laws.{matches_eq-law as many_level, total-law as many_total}
use Rattle.std.proofs.lemmas.Map.Lookups.{exact_bytes}
use Rattle.sc_names.proofs.UidLaws.{text_total}
use Rattle.sc_names.specs.Uids.{text_cmp}
use Rattle.sc_terms.specs.Trees.{Tree, leaf, one, two, choice, many, Trees, no_part, part}
use Rattle.sc_sorts.specs.Rows.{leaf_row, unary_row, binary_row, many_row}
use Rattle.sc_terms.specs.Order.{row, tree_cmp, trees_cmp, tree_eq}
use Rattle.sc_sorts.specs.Same.{same_leaf, same_unary, same_binary, same_many}

-- ---- how many parts the terms of a row have: 4 for any number

arity_at : ℕ → ℕ
arity_at n = cond (nat_le n 10) 0 (cond (list_any (nat_eq n) (11 ∷ 23 ∷ 25 ∷ 27 ∷ 28 ∷ 29 ∷ 30 ∷ 31 ∷ 33 ∷ 36 ∷ 37 ∷ 43 ∷ [])) 1 (cond (nat_eq n 14) 3 (cond (list_any (nat_eq n) (34 ∷ 35 ∷ [])) 4 2)))

leaf_arity : (l : Leaf) → arity_at (leaf_row l) ≡ 0
unfolding arity_at
leaf_arity (leafs.Literal (literal.Bool true)) = refl
leaf_arity (leafs.Literal (literal.Bool false)) = refl
leaf_arity (leafs.Literal (literal.Long n)) = refl
leaf_arity (leafs.Literal (literal.String t)) = refl
leaf_arity (leafs.Literal (literal.Decimal d)) = refl
leaf_arity (leafs.Literal (literal.Ip ip)) = refl
leaf_arity (leafs.Literal (literal.Entity u us)) = refl
leaf_arity (leafs.None s) = refl
leaf_arity (leafs.Principal s) = refl
leaf_arity (leafs.Resource s) = refl
leaf_arity (leafs.Context s) = refl

unary_arity : (o : UnaryOp) → arity_at (unary_row o) ≡ 1
unfolding arity_at
unary_arity unary.Not = refl
unary_arity (unary.Bit i) = refl
unary_arity (unary.CarryIn i) = refl
unary_arity (unary.ProductRow i j) = refl
unary_arity (unary.ProductCarry i j) = refl
unary_arity (unary.Attributes s) = refl
unary_arity (unary.Ancestors s) = refl
unary_arity unary.Keys = refl
unary_arity (unary.Field n) = refl
unary_arity unary.Present = refl
unary_arity unary.Held = refl
unary_arity (unary.Like p) = refl

binary_arity : (o : BinaryOp) → arity_at (binary_row o) ≡ 2
unfolding arity_at
binary_arity binary.And = refl
binary_arity binary.Or = refl
binary_arity binary.Equal = refl
binary_arity binary.Add = refl
binary_arity binary.Subtract = refl
binary_arity binary.Multiply = refl
binary_arity binary.AddOverflows = refl
binary_arity binary.SubtractOverflows = refl
binary_arity binary.MultiplyOverflows = refl
binary_arity binary.Less = refl
binary_arity binary.InRange = refl
binary_arity (binary.Low i) = refl
binary_arity (binary.Tag s) = refl
binary_arity binary.Member = refl
binary_arity binary.Subset = refl
binary_arity binary.Common = refl
binary_arity binary.DifferencePick = refl
binary_arity binary.CommonPick = refl

choice_arity : arity_at 14 ≡ 3
unfolding arity_at
choice_arity = refl

many_arity : (o : ManyOp) → arity_at (many_row o) ≡ 4
unfolding arity_at
many_arity manys.Record = refl
many_arity (manys.Set s) = refl

nat_itself : (n : ℕ) → nat_cmp n n ≡ Equal
nat_itself n = tied_itself nat_cmp_total n

nat_level : (m n : ℕ) → nat_cmp m n ≡ Equal → m ≡ n
nat_level m n h = grind (arith, nat_tests)

-- terms of one row have as many parts
apart : (m n k l : ℕ) → arity_at m ≡ k → arity_at n ≡ l → nat_cmp m n ≡ Equal → k ≡ l
apart m n k l e f h = sym e ∙ ap arity_at (nat_level m n h) ∙ f

-- ---- level terms are one

leaf_exact : (a b : Leaf) → leaf_ord.cmp a b ≡ Equal → a ≡ b
leaf_exact a b h = same_leaf a b (leaf_level a b ∙ ap is_eq h)

unary_exact : (o p : UnaryOp) → unary_ord.cmp o p ≡ Equal → o ≡ p
unary_exact o p h = same_unary o p (unary_level o p ∙ ap is_eq h)

binary_exact : (o p : BinaryOp) → binary_ord.cmp o p ≡ Equal → o ≡ p
binary_exact o p h = same_binary o p (binary_level o p ∙ ap is_eq h)

many_exact : (o p : ManyOp) → many_ord.cmp o p ≡ Equal → o ≡ p
many_exact o p h = same_many o p (many_level o p ∙ ap is_eq h)

mutual
  unfolding tree_cmp

  pub exact : (x y : Tree) → tree_cmp x y ≡ Equal → x ≡ y
  exact (leaf l1) (leaf l2) h = ap leaf (leaf_exact l1 l2 (ordering_then_equal _ _ h).1)
  exact (leaf l1) (one o2 a2) h = absurd (omega (arith, apart _ _ 0 1 (leaf_arity l1) (unary_arity o2) (ordering_then_equal _ _ h).0))
  exact (leaf l1) (two o2 a2 b2) h = absurd (omega (arith, apart _ _ 0 2 (leaf_arity l1) (binary_arity o2) (ordering_then_equal _ _ h).0))
  exact (leaf l1) (choice a2 b2 c2) h = absurd (omega (arith, apart _ _ 0 3 (leaf_arity l1) choice_arity (ordering_then_equal _ _ h).0))
  exact (leaf l1) (many o2 ts2) h = absurd (omega (arith, apart _ _ 0 4 (leaf_arity l1) (many_arity o2) (ordering_then_equal _ _ h).0))
  exact (one o1 a1) (leaf l2) h = absurd (omega (arith, apart _ _ 1 0 (unary_arity o1) (leaf_arity l2) (ordering_then_equal _ _ h).0))
  exact (one o1 a1) (one o2 a2) h =
      let k = ordering_then_equal _ _ (ordering_then_equal _ _ h).1 in
      let e = exact a1 a2 k.0 in
      let f = unary_exact o1 o2 k.1 in
      cc
  exact (one o1 a1) (two o2 a2 b2) h = absurd (omega (arith, apart _ _ 1 2 (unary_arity o1) (binary_arity o2) (ordering_then_equal _ _ h).0))
  exact (one o1 a1) (choice a2 b2 c2) h = absurd (omega (arith, apart _ _ 1 3 (unary_arity o1) choice_arity (ordering_then_equal _ _ h).0))
  exact (one o1 a1) (many o2 ts2) h = absurd (omega (arith, apart _ _ 1 4 (unary_arity o1) (many_arity o2) (ordering_then_equal _ _ h).0))
  exact (two o1 a1 b1) (leaf l2) h = absurd (omega (arith, apart _ _ 2 0 (binary_arity o1) (leaf_arity l2) (ordering_then_equal _ _ h).0))
  exact (two o1 a1 b1) (one o2 a2) h = absurd (omega (arith, apart _ _ 2 1 (binary_arity o1) (unary_arity o2) (ordering_then_equal _ _ h).0))
  exact (two o1 a1 b1) (two o2 a2 b2) h =
      let k = ordering_then_equal _ _ (ordering_then_equal _ _ h).1 in
      let l = ordering_then_equal _ _ k.1 in
      let e = exact a1 a2 k.0 in
      let f = exact b1 b2 l.0 in
      let g = binary_exact o1 o2 l.1 in
      cc
  exact (two o1 a1 b1) (choice a2 b2 c2) h = absurd (omega (arith, apart _ _ 2 3 (binary_arity o1) choice_arity (ordering_then_equal _ _ h).0))
  exact (two o1 a1 b1) (many o2 ts2) h = absurd (omega (arith, apart _ _ 2 4 (binary_arity o1) (many_arity o2) (ordering_then_equal _ _ h).0))
  exact (choice a1 b1 c1) (leaf l2) h = absurd (omega (arith, apart _ _ 3 0 choice_arity (leaf_arity l2) (ordering_then_equal _ _ h).0))
  exact (choice a1 b1 c1) (one o2 a2) h = absurd (omega (arith, apart _ _ 3 1 choice_arity (unary_arity o2) (ordering_then_equal _ _ h).0))
  exact (choice a1 b1 c1) (two o2 a2 b2) h = absurd (omega (arith, apart _ _ 3 2 choice_arity (binary_arity o2) (ordering_then_equal _ _ h).0))
  exact (choice a1 b1 c1) (choice a2 b2 c2) h =
      let k = ordering_then_equal _ _ h in
      let l = ordering_then_equal _ _ k.1 in
      let e = exact a1 a2 k.0 in
      let f = exact b1 b2 l.0 in
      let g = exact c1 c2 l.1 in
      cc
  exact (choice a1 b1 c1) (many o2 ts2) h = absurd (omega (arith, apart _ _ 3 4 choice_arity (many_arity o2) (ordering_then_equal _ _ h).0))
  exact (many o1 ts1) (leaf l2) h = absurd (omega (arith, apart _ _ 4 0 (many_arity o1) (leaf_arity l2) (ordering_then_equal _ _ h).0))
  exact (many o1 ts1) (one o2 a2) h = absurd (omega (arith, apart _ _ 4 1 (many_arity o1) (unary_arity o2) (ordering_then_equal _ _ h).0))
  exact (many o1 ts1) (two o2 a2 b2) h = absurd (omega (arith, apart _ _ 4 2 (many_arity o1) (binary_arity o2) (ordering_then_equal _ _ h).0))
  exact (many o1 ts1) (choice a2 b2 c2) h = absurd (omega (arith, apart _ _ 4 3 (many_arity o1) choice_arity (ordering_then_equal _ _ h).0))
  exact (many o1 ts1) (many o2 ts2) h =
      let k = ordering_then_equal _ _ (ordering_then_equal _ _ h).1 in
      let e = all_exact ts1 ts2 k.0 in
      let f = many_exact o1 o2 k.1 in
      λ i. many (f i) (e i)

  all_exact : (ts us : Trees) → trees_cmp ts us ≡ Equal → ts ≡ us
  all_exact no_part no_part h = refl
  all_exact no_part (part m u us) h = cc
  all_exact (part l t ts) no_part h = cc
  all_exact (part l t ts) (part m u us) h =
      let k = ordering_then_equal _ _ h in
      let j = ordering_then_equal _ _ k.0 in
      let d : l ≡ m = exact_bytes l m j.0 in
      let e = exact t u j.1 in
      let f = all_exact ts us k.1 in
      λ i. part (d i) (e i) (f i)

level : {K : Type 0} {R : K → K → Ordering} → IsTotalOrder R → (x : K) → R x x ≡ Equal
level t x = tied_itself t x

mutual
  unfolding tree_cmp

  pub tree_itself : (x : Tree) → tree_cmp x x ≡ Equal
  tree_itself (leaf l) = rw (nat_itself (leaf_row l)) (level leaf_total l)
  tree_itself (one o a) = rw (nat_itself (unary_row o), tree_itself a) (level unary_total o)
  tree_itself (two o a b) = rw (nat_itself (binary_row o), tree_itself a, tree_itself b) (level binary_total o)
  tree_itself (choice a b c) = rw (tree_itself a, tree_itself b) (tree_itself c)
  tree_itself (many o ts) = rw (nat_itself (many_row o), all_itself ts) (level many_total o)

  all_itself : (ts : Trees) → trees_cmp ts ts ≡ Equal
  all_itself no_part = refl
  all_itself (part l t ts) = rw (level text_total l, tree_itself t) (all_itself ts)

pub tree_eq-exact : (x y : Tree) → tree_eq x y ≡ true → x ≡ y
unfolding tree_eq
tree_eq-exact x y h = exact x y ((Equal-is (tree_cmp x y)).0 h)

pub tree_eq-itself : (x : Tree) → tree_eq x x ≡ true
unfolding tree_eq
tree_eq-itself x = ap is_eq (tree_itself x)

-- ---- two orders, one after the other

then_assoc : (a b c : Ordering) → ordering_then (ordering_then a b) c ≡ ordering_then a (ordering_then b c)
then_assoc Less b c = refl
then_assoc Equal b c = refl
then_assoc Greater b c = refl

chain : (a1 a2 a3 b1 b2 b3 : Ordering) → (a1 ≡ Less → a2 ≡ Less → a3 ≡ Less) → (a1 ≡ Equal → a3 ≡ a2) → (a2 ≡ Equal → a3 ≡ a1)
    → (a1 ≡ Equal → a2 ≡ Equal → b1 ≡ Less → b2 ≡ Less → b3 ≡ Less) → ordering_then a1 b1 ≡ Less → ordering_then a2 b2 ≡ Less → ordering_then a3 b3 ≡ Less
chain Less Less a3 b1 b2 b3 t l r n h k = rw (t refl refl) refl
chain Less Equal a3 b1 b2 b3 t l r n h k = rw (r refl) refl
chain Less Greater a3 b1 b2 b3 t l r n h k = cc
chain Equal Less a3 b1 b2 b3 t l r n h k = rw (l refl) refl
chain Equal Equal a3 b1 b2 b3 t l r n h k = rw (l refl) (n refl refl h k)
chain Equal Greater a3 b1 b2 b3 t l r n h k = cc
chain Greater a2 a3 b1 b2 b3 t l r n h k = cc

rev_then : (a b c d : Ordering) → a ≡ ordering_reverse c → b ≡ ordering_reverse d → ordering_then a b ≡ ordering_reverse (ordering_then c d)
rev_then a b Less d e f = rw e refl
rev_then a b Equal d e f = rw e f
rev_then a b Greater d e f = rw e refl

-- at an order in which only equal values are level
module _ {K : Type 0} (R : K → K → Ordering) (exact : (x y : K) → R x y ≡ Equal → x ≡ y) (x y z : K) (t : R x y ≡ Less → R y z ≡ Less → R x z ≡ Less) where
  chain_at : (b1 b2 b3 : Ordering) → (b1 ≡ Less → b2 ≡ Less → b3 ≡ Less) → ordering_then (R x y) b1 ≡ Less → ordering_then (R y z) b2 ≡ Less → ordering_then (R x z) b3 ≡ Less
  chain_at b1 b2 b3 n h k =
      chain (R x y) (R y z) (R x z) b1 b2 b3 t (λ e. ap (λ (v : K). R v z) (exact x y e)) (λ e. ap (R x) (sym (exact y z e))) (λ e f. n) h k

rows : (m n o : ℕ) (b1 b2 b3 : Ordering) → (nat_cmp m n ≡ Equal → nat_cmp n o ≡ Equal → b1 ≡ Less → b2 ≡ Less → b3 ≡ Less)
    → ordering_then (nat_cmp m n) b1 ≡ Less → ordering_then (nat_cmp n o) b2 ≡ Less → ordering_then (nat_cmp m o) b3 ≡ Less
rows m n o b1 b2 b3 next h k =
    chain (nat_cmp m n) (nat_cmp n o) (nat_cmp m o) b1 b2 b3 (nat_cmp_total.trans m n o) (λ e. ap (λ (v : ℕ). nat_cmp v o) (nat_level m n e)) (λ e. ap (nat_cmp m) (sym (nat_level n o e))) next h k

-- ---- a total order

mutual
  unfolding tree_cmp

  tree_trans : (x y z : Tree) → tree_cmp x y ≡ Less → tree_cmp y z ≡ Less → tree_cmp x z ≡ Less
  tree_trans (leaf l1) (leaf l2) (leaf l3) h k = rows (leaf_row l1) (leaf_row l2) (leaf_row l3) _ _ _ (λ e f. leaf_total.trans l1 l2 l3) h k
  tree_trans (leaf l1) (leaf l2) (one o3 a3) h k = rows (leaf_row l1) (leaf_row l2) (unary_row o3) _ _ _ (λ e f i j. absurd (omega (arith, apart _ _ 0 1 (leaf_arity l2) (unary_arity o3) f))) h k
  tree_trans (leaf l1) (leaf l2) (two o3 a3 b3) h k = rows (leaf_row l1) (leaf_row l2) (binary_row o3) _ _ _ (λ e f i j. absurd (omega (arith, apart _ _ 0 2 (leaf_arity l2) (binary_arity o3) f))) h k
  tree_trans (leaf l1) (leaf l2) (choice a3 b3 c3) h k = rows (leaf_row l1) (leaf_row l2) 14 _ _ _ (λ e f i j. absurd (omega (arith, apart _ _ 0 3 (leaf_arity l2) choice_arity f))) h k
  tree_trans (leaf l1) (leaf l2) (many o3 ts3) h k = rows (leaf_row l1) (leaf_row l2) (many_row o3) _ _ _ (λ e f i j. absurd (omega (arith, apart _ _ 0 4 (leaf_arity l2) (many_arity o3) f))) h k
  tree_trans (leaf l1) (one o2 a2) z h k = rows (leaf_row l1) (unary_row o2) (row z) _ _ _ (λ e f i j. absurd (omega (arith, apart _ _ 0 1 (leaf_arity l1) (unary_arity o2) e))) h k
  tree_trans (leaf l1) (two o2 a2 b2) z h k = rows (leaf_row l1) (binary_row o2) (row z) _ _ _ (λ e f i j. absurd (omega (arith, apart _ _ 0 2 (leaf_arity l1) (binary_arity o2) e))) h k
  tree_trans (leaf l1) (choice a2 b2 c2) z h k = rows (leaf_row l1) 14 (row z) _ _ _ (λ e f i j. absurd (omega (arith, apart _ _ 0 3 (leaf_arity l1) choice_arity e))) h k
  tree_trans (leaf l1) (many o2 ts2) z h k = rows (leaf_row l1) (many_row o2) (row z) _ _ _ (λ e f i j. absurd (omega (arith, apart _ _ 0 4 (leaf_arity l1) (many_arity o2) e))) h k
  tree_trans (one o1 a1) (leaf l2) z h k = rows (unary_row o1) (leaf_row l2) (row z) _ _ _ (λ e f i j. absurd (omega (arith, apart _ _ 1 0 (unary_arity o1) (leaf_arity l2) e))) h k
  tree_trans (one o1 a1) (one o2 a2) (leaf l3) h k = rows (unary_row o1) (unary_row o2) (leaf_row l3) _ _ _ (λ e f i j. absurd (omega (arith, apart _ _ 1 0 (unary_arity o2) (leaf_arity l3) f))) h k
  tree_trans (one o1 a1) (one o2 a2) (one o3 a3) h k = rows (unary_row o1) (unary_row o2) (unary_row o3) _ _ _ (λ e f. chain_at tree_cmp exact a1 a2 a3 (tree_trans a1 a2 a3) _ _ _ (unary_total.trans o1 o2 o3)) h k
  tree_trans (one o1 a1) (one o2 a2) (two o3 a3 b3) h k = rows (unary_row o1) (unary_row o2) (binary_row o3) _ _ _ (λ e f i j. absurd (omega (arith, apart _ _ 1 2 (unary_arity o2) (binary_arity o3) f))) h k
  tree_trans (one o1 a1) (one o2 a2) (choice a3 b3 c3) h k = rows (unary_row o1) (unary_row o2) 14 _ _ _ (λ e f i j. absurd (omega (arith, apart _ _ 1 3 (unary_arity o2) choice_arity f))) h k
  tree_trans (one o1 a1) (one o2 a2) (many o3 ts3) h k = rows (unary_row o1) (unary_row o2) (many_row o3) _ _ _ (λ e f i j. absurd (omega (arith, apart _ _ 1 4 (unary_arity o2) (many_arity o3) f))) h k
  tree_trans (one o1 a1) (two o2 a2 b2) z h k = rows (unary_row o1) (binary_row o2) (row z) _ _ _ (λ e f i j. absurd (omega (arith, apart _ _ 1 2 (unary_arity o1) (binary_arity o2) e))) h k
  tree_trans (one o1 a1) (choice a2 b2 c2) z h k = rows (unary_row o1) 14 (row z) _ _ _ (λ e f i j. absurd (omega (arith, apart _ _ 1 3 (unary_arity o1) choice_arity e))) h k
  tree_trans (one o1 a1) (many o2 ts2) z h k = rows (unary_row o1) (many_row o2) (row z) _ _ _ (λ e f i j. absurd (omega (arith, apart _ _ 1 4 (unary_arity o1) (many_arity o2) e))) h k
  tree_trans (two o1 a1 b1) (leaf l2) z h k = rows (binary_row o1) (leaf_row l2) (row z) _ _ _ (λ e f i j. absurd (omega (arith, apart _ _ 2 0 (binary_arity o1) (leaf_arity l2) e))) h k
  tree_trans (two o1 a1 b1) (one o2 a2) z h k = rows (binary_row o1) (unary_row o2) (row z) _ _ _ (λ e f i j. absurd (omega (arith, apart _ _ 2 1 (binary_arity o1) (unary_arity o2) e))) h k
  tree_trans (two o1 a1 b1) (two o2 a2 b2) (leaf l3) h k = rows (binary_row o1) (binary_row o2) (leaf_row l3) _ _ _ (λ e f i j. absurd (omega (arith, apart _ _ 2 0 (binary_arity o2) (leaf_arity l3) f))) h k
  tree_trans (two o1 a1 b1) (two o2 a2 b2) (one o3 a3) h k = rows (binary_row o1) (binary_row o2) (unary_row o3) _ _ _ (λ e f i j. absurd (omega (arith, apart _ _ 2 1 (binary_arity o2) (unary_arity o3) f))) h k
  tree_trans (two o1 a1 b1) (two o2 a2 b2) (two o3 a3 b3) h k = rows (binary_row o1) (binary_row o2) (binary_row o3) _ _ _ (λ e f. chain_at tree_cmp exact a1 a2 a3 (tree_trans a1 a2 a3) _ _ _ (chain_at tree_cmp exact b1 b2 b3 (tree_trans b1 b2 b3) _ _ _ (binary_total.trans o1 o2 o3))) h k
  tree_trans (two o1 a1 b1) (two o2 a2 b2) (choice a3 b3 c3) h k = rows (binary_row o1) (binary_row o2) 14 _ _ _ (λ e f i j. absurd (omega (arith, apart _ _ 2 3 (binary_arity o2) choice_arity f))) h k
  tree_trans (two o1 a1 b1) (two o2 a2 b2) (many o3 ts3) h k = rows (binary_row o1) (binary_row o2) (many_row o3) _ _ _ (λ e f i j. absurd (omega (arith, apart _ _ 2 4 (binary_arity o2) (many_arity o3) f))) h k
  tree_trans (two o1 a1 b1) (choice a2 b2 c2) z h k = rows (binary_row o1) 14 (row z) _ _ _ (λ e f i j. absurd (omega (arith, apart _ _ 2 3 (binary_arity o1) choice_arity e))) h k
  tree_trans (two o1 a1 b1) (many o2 ts2) z h k = rows (binary_row o1) (many_row o2) (row z) _ _ _ (λ e f i j. absurd (omega (arith, apart _ _ 2 4 (binary_arity o1) (many_arity o2) e))) h k
  tree_trans (choice a1 b1 c1) (leaf l2) z h k = rows 14 (leaf_row l2) (row z) _ _ _ (λ e f i j. absurd (omega (arith, apart _ _ 3 0 choice_arity (leaf_arity l2) e))) h k
  tree_trans (choice a1 b1 c1) (one o2 a2) z h k = rows 14 (unary_row o2) (row z) _ _ _ (λ e f i j. absurd (omega (arith, apart _ _ 3 1 choice_arity (unary_arity o2) e))) h k
  tree_trans (choice a1 b1 c1) (two o2 a2 b2) z h k = rows 14 (binary_row o2) (row z) _ _ _ (λ e f i j. absurd (omega (arith, apart _ _ 3 2 choice_arity (binary_arity o2) e))) h k
  tree_trans (choice a1 b1 c1) (choice a2 b2 c2) (leaf l3) h k = rows 14 14 (leaf_row l3) _ _ _ (λ e f i j. absurd (omega (arith, apart _ _ 3 0 choice_arity (leaf_arity l3) f))) h k
  tree_trans (choice a1 b1 c1) (choice a2 b2 c2) (one o3 a3) h k = rows 14 14 (unary_row o3) _ _ _ (λ e f i j. absurd (omega (arith, apart _ _ 3 1 choice_arity (unary_arity o3) f))) h k
  tree_trans (choice a1 b1 c1) (choice a2 b2 c2) (two o3 a3 b3) h k = rows 14 14 (binary_row o3) _ _ _ (λ e f i j. absurd (omega (arith, apart _ _ 3 2 choice_arity (binary_arity o3) f))) h k
  tree_trans (choice a1 b1 c1) (choice a2 b2 c2) (choice a3 b3 c3) h k = chain_at tree_cmp exact a1 a2 a3 (tree_trans a1 a2 a3) _ _ _ (chain_at tree_cmp exact b1 b2 b3 (tree_trans b1 b2 b3) _ _ _ (tree_trans c1 c2 c3)) h k
  tree_trans (choice a1 b1 c1) (choice a2 b2 c2) (many o3 ts3) h k = rows 14 14 (many_row o3) _ _ _ (λ e f i j. absurd (omega (arith, apart _ _ 3 4 choice_arity (many_arity o3) f))) h k
  tree_trans (choice a1 b1 c1) (many o2 ts2) z h k = rows 14 (many_row o2) (row z) _ _ _ (λ e f i j. absurd (omega (arith, apart _ _ 3 4 choice_arity (many_arity o2) e))) h k
  tree_trans (many o1 ts1) (leaf l2) z h k = rows (many_row o1) (leaf_row l2) (row z) _ _ _ (λ e f i j. absurd (omega (arith, apart _ _ 4 0 (many_arity o1) (leaf_arity l2) e))) h k
  tree_trans (many o1 ts1) (one o2 a2) z h k = rows (many_row o1) (unary_row o2) (row z) _ _ _ (λ e f i j. absurd (omega (arith, apart _ _ 4 1 (many_arity o1) (unary_arity o2) e))) h k
  tree_trans (many o1 ts1) (two o2 a2 b2) z h k = rows (many_row o1) (binary_row o2) (row z) _ _ _ (λ e f i j. absurd (omega (arith, apart _ _ 4 2 (many_arity o1) (binary_arity o2) e))) h k
  tree_trans (many o1 ts1) (choice a2 b2 c2) z h k = rows (many_row o1) 14 (row z) _ _ _ (λ e f i j. absurd (omega (arith, apart _ _ 4 3 (many_arity o1) choice_arity e))) h k
  tree_trans (many o1 ts1) (many o2 ts2) (leaf l3) h k = rows (many_row o1) (many_row o2) (leaf_row l3) _ _ _ (λ e f i j. absurd (omega (arith, apart _ _ 4 0 (many_arity o2) (leaf_arity l3) f))) h k
  tree_trans (many o1 ts1) (many o2 ts2) (one o3 a3) h k = rows (many_row o1) (many_row o2) (unary_row o3) _ _ _ (λ e f i j. absurd (omega (arith, apart _ _ 4 1 (many_arity o2) (unary_arity o3) f))) h k
  tree_trans (many o1 ts1) (many o2 ts2) (two o3 a3 b3) h k = rows (many_row o1) (many_row o2) (binary_row o3) _ _ _ (λ e f i j. absurd (omega (arith, apart _ _ 4 2 (many_arity o2) (binary_arity o3) f))) h k
  tree_trans (many o1 ts1) (many o2 ts2) (choice a3 b3 c3) h k = rows (many_row o1) (many_row o2) 14 _ _ _ (λ e f i j. absurd (omega (arith, apart _ _ 4 3 (many_arity o2) choice_arity f))) h k
  tree_trans (many o1 ts1) (many o2 ts2) (many o3 ts3) h k = rows (many_row o1) (many_row o2) (many_row o3) _ _ _ (λ e f. chain_at trees_cmp all_exact ts1 ts2 ts3 (all_trans ts1 ts2 ts3) _ _ _ (many_total.trans o1 o2 o3)) h k

  all_trans : (ts us vs : Trees) → trees_cmp ts us ≡ Less → trees_cmp us vs ≡ Less → trees_cmp ts vs ≡ Less
  all_trans no_part no_part vs h k = cc
  all_trans no_part (part m u us) no_part h k = cc
  all_trans no_part (part m u us) (part n v vs) h k = refl
  all_trans (part l t ts) no_part vs h k = cc
  all_trans (part l t ts) (part m u us) no_part h k = cc
  all_trans (part l t ts) (part m u us) (part n v vs) h k =
      let g = then_assoc (text_cmp l m) (tree_cmp t u) (trees_cmp ts us) in
      let i = then_assoc (text_cmp m n) (tree_cmp u v) (trees_cmp us vs) in
      let j = then_assoc (text_cmp l n) (tree_cmp t v) (trees_cmp ts vs) in
      j ∙ chain_at text_cmp exact_bytes l m n (text_total.trans l m n) _ _ _ (chain_at tree_cmp exact t u v (tree_trans t u v) _ _ _ (all_trans ts us vs)) (sym g ∙ h) (sym i ∙ k)

mutual
  unfolding tree_cmp

  tree_flip : (x y : Tree) → tree_cmp x y ≡ ordering_reverse (tree_cmp y x)
  tree_flip (leaf l1) (leaf l2) = rev_then _ _ _ _ (nat_cmp_total.antisymm (leaf_row l1) (leaf_row l2)) (leaf_total.antisymm l1 l2)
  tree_flip (leaf l1) (one o2 a2) = rev_then _ _ _ _ (nat_cmp_total.antisymm (leaf_row l1) (unary_row o2)) refl
  tree_flip (leaf l1) (two o2 a2 b2) = rev_then _ _ _ _ (nat_cmp_total.antisymm (leaf_row l1) (binary_row o2)) refl
  tree_flip (leaf l1) (choice a2 b2 c2) = rev_then _ _ _ _ (nat_cmp_total.antisymm (leaf_row l1) 14) refl
  tree_flip (leaf l1) (many o2 ts2) = rev_then _ _ _ _ (nat_cmp_total.antisymm (leaf_row l1) (many_row o2)) refl
  tree_flip (one o1 a1) (leaf l2) = rev_then _ _ _ _ (nat_cmp_total.antisymm (unary_row o1) (leaf_row l2)) refl
  tree_flip (one o1 a1) (one o2 a2) = rev_then _ _ _ _ (nat_cmp_total.antisymm (unary_row o1) (unary_row o2)) (rev_then _ _ _ _ (tree_flip a1 a2) (unary_total.antisymm o1 o2))
  tree_flip (one o1 a1) (two o2 a2 b2) = rev_then _ _ _ _ (nat_cmp_total.antisymm (unary_row o1) (binary_row o2)) refl
  tree_flip (one o1 a1) (choice a2 b2 c2) = rev_then _ _ _ _ (nat_cmp_total.antisymm (unary_row o1) 14) refl
  tree_flip (one o1 a1) (many o2 ts2) = rev_then _ _ _ _ (nat_cmp_total.antisymm (unary_row o1) (many_row o2)) refl
  tree_flip (two o1 a1 b1) (leaf l2) = rev_then _ _ _ _ (nat_cmp_total.antisymm (binary_row o1) (leaf_row l2)) refl
  tree_flip (two o1 a1 b1) (one o2 a2) = rev_then _ _ _ _ (nat_cmp_total.antisymm (binary_row o1) (unary_row o2)) refl
  tree_flip (two o1 a1 b1) (two o2 a2 b2) = rev_then _ _ _ _ (nat_cmp_total.antisymm (binary_row o1) (binary_row o2)) (rev_then _ _ _ _ (tree_flip a1 a2) (rev_then _ _ _ _ (tree_flip b1 b2) (binary_total.antisymm o1 o2)))
  tree_flip (two o1 a1 b1) (choice a2 b2 c2) = rev_then _ _ _ _ (nat_cmp_total.antisymm (binary_row o1) 14) refl
  tree_flip (two o1 a1 b1) (many o2 ts2) = rev_then _ _ _ _ (nat_cmp_total.antisymm (binary_row o1) (many_row o2)) refl
  tree_flip (choice a1 b1 c1) (leaf l2) = rev_then _ _ _ _ (nat_cmp_total.antisymm 14 (leaf_row l2)) refl
  tree_flip (choice a1 b1 c1) (one o2 a2) = rev_then _ _ _ _ (nat_cmp_total.antisymm 14 (unary_row o2)) refl
  tree_flip (choice a1 b1 c1) (two o2 a2 b2) = rev_then _ _ _ _ (nat_cmp_total.antisymm 14 (binary_row o2)) refl
  tree_flip (choice a1 b1 c1) (choice a2 b2 c2) = rev_then _ _ _ _ (tree_flip a1 a2) (rev_then _ _ _ _ (tree_flip b1 b2) (tree_flip c1 c2))
  tree_flip (choice a1 b1 c1) (many o2 ts2) = rev_then _ _ _ _ (nat_cmp_total.antisymm 14 (many_row o2)) refl
  tree_flip (many o1 ts1) (leaf l2) = rev_then _ _ _ _ (nat_cmp_total.antisymm (many_row o1) (leaf_row l2)) refl
  tree_flip (many o1 ts1) (one o2 a2) = rev_then _ _ _ _ (nat_cmp_total.antisymm (many_row o1) (unary_row o2)) refl
  tree_flip (many o1 ts1) (two o2 a2 b2) = rev_then _ _ _ _ (nat_cmp_total.antisymm (many_row o1) (binary_row o2)) refl
  tree_flip (many o1 ts1) (choice a2 b2 c2) = rev_then _ _ _ _ (nat_cmp_total.antisymm (many_row o1) 14) refl
  tree_flip (many o1 ts1) (many o2 ts2) = rev_then _ _ _ _ (nat_cmp_total.antisymm (many_row o1) (many_row o2)) (rev_then _ _ _ _ (all_flip ts1 ts2) (many_total.antisymm o1 o2))

  all_flip : (ts us : Trees) → trees_cmp ts us ≡ ordering_reverse (trees_cmp us ts)
  all_flip no_part no_part = refl
  all_flip no_part (part m u us) = refl
  all_flip (part l t ts) no_part = refl
  all_flip (part l t ts) (part m u us) = rev_then _ _ _ _ (rev_then _ _ _ _ (text_total.antisymm l m) (tree_flip t u)) (all_flip ts us)

pub tree_cmp_total : IsTotalOrder tree_cmp
tree_cmp_total = record { antisymm = tree_flip; trans = tree_trans; congr = λ x y z e. ap (λ (t : Tree). tree_cmp t z) (exact x y e) }

pub tree_cmp_level : (x y : Tree) → tree_cmp x y ≡ Equal ↔ x ≡ y
tree_cmp_level x y = (exact x y, λ e. subst (λ (z : Tree). tree_cmp x z ≡ Equal) e (tree_itself x))
