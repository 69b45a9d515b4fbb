-- Comparisons by rows, and then by parts.
use Rattle.std.proofs.Common.{◌≡◌, ℕ, true, false, List, ◌∷◌, refl, sym, ap, ◌∙◌}
use Rattle.std.specs.declared.cmp.Ordering.{Ordering}
use Rattle.std.specs.declared.cmp.Ordering.TheVariants.{Less, Equal, Greater}
use Rattle.std.specs.Ordering.{nat_cmp, ordering_then, is_eq}
use Rattle.std.specs.Cmp.{Equal-is}
use Rattle.sc_names.specs.Uids.{text_cmp}
use Rattle.sc_sorts.specs.declared.node.Node.{Node}
use Rattle.sc_sorts.specs.declared.node.Node.TheVariants as node
use Rattle.sc_terms.specs.Trees.{Tree}
use Rattle.sc_terms.specs.Tables.{Places, node_tree, node_parts, tree}
use Rattle.sc_sorts.specs.Rows.{node_row}
use Rattle.sc_terms.specs.Order.{tree_cmp, trees_cmp, tree_eq, parts_cmp}

-- parts that are one term tell nothing of the order, and parts that differ tell it

pub same_then : (a b : Tree) (r : Ordering) → true ≡ tree_eq a b → r ≡ ordering_then (tree_cmp a b) r
unfolding tree_eq
same_then a b r h = ap (λ (o : Ordering). ordering_then o r) (sym ((Equal-is (tree_cmp a b)).0 (sym h)))

unequal_then : (o r : Ordering) → false ≡ is_eq o → o ≡ ordering_then o r
unequal_then Less r h = refl
unequal_then Equal r h = absurd cc
unequal_then Greater r h = refl

pub apart_then : (a b : Tree) (r : Ordering) → false ≡ tree_eq a b → tree_cmp a b ≡ ordering_then (tree_cmp a b) r
unfolding tree_eq
apart_then a b r h = unequal_then (tree_cmp a b) r h

-- labelled parts of one label

then_apart : (e o s r : Ordering) → e ≡ Equal → false ≡ is_eq o → o ≡ ordering_then (ordering_then (ordering_then e o) s) r
then_apart Less o s r h k = absurd cc
then_apart Equal Less s r h k = refl
then_apart Equal Equal s r h k = absurd cc
then_apart Equal Greater s r h k = refl
then_apart Greater o s r h k = absurd cc

then_same : (e o s : Ordering) → e ≡ Equal → o ≡ Equal → ordering_then (ordering_then e o) s ≡ s
then_same e o s h k = ap (λ (d : Ordering). ordering_then (ordering_then d o) s) h ∙ ap (λ (d : Ordering). ordering_then d s) k

module _ (xs : List Node) (ps qs later others : Places) (p q : List ℕ × ℕ) (there : ps ≡ p ∷ later) (other : qs ≡ q ∷ others) (label : text_cmp p.0 q.0 ≡ Equal) where
  pub first_apart : (whole r : Ordering) → whole ≡ trees_cmp (node_parts xs ps) (node_parts xs qs) → false ≡ tree_eq (tree xs p.1) (tree xs q.1)
      → tree_cmp (tree xs p.1) (tree xs q.1) ≡ ordering_then whole r
  unfolding tree_cmp tree_eq
  first_apart whole r e h =
      rw (e, there, other) (then_apart (text_cmp p.0 q.0) (tree_cmp (tree xs p.1) (tree xs q.1)) (trees_cmp (node_parts xs later) (node_parts xs others)) r label h)

  pub first_same : (whole : Ordering) → whole ≡ trees_cmp (node_parts xs ps) (node_parts xs qs) → true ≡ tree_eq (tree xs p.1) (tree xs q.1)
      → whole ≡ trees_cmp (node_parts xs later) (node_parts xs others)
  unfolding tree_cmp tree_eq
  first_same whole e h =
      let level = (Equal-is (tree_cmp (tree xs p.1) (tree xs q.1))).0 (sym h) in
      rw (e, there, other) (then_same (text_cmp p.0 q.0) (tree_cmp (tree xs p.1) (tree xs q.1)) (trees_cmp (node_parts xs later) (node_parts xs others)) label level)

-- by rows first

pub cmp_by_rows : (xs : List Node) (x y : Node) → tree_cmp (node_tree xs x) (node_tree xs y) ≡ ordering_then (nat_cmp (node_row x) (node_row y)) (parts_cmp (node_tree xs x) (node_tree xs y))
unfolding tree_cmp parts_cmp
cmp_by_rows xs (node.Leaf l1) (node.Leaf l2) = refl
cmp_by_rows xs (node.Leaf l1) (node.One o2 a2) = refl
cmp_by_rows xs (node.Leaf l1) (node.Two o2 a2 b2) = refl
cmp_by_rows xs (node.Leaf l1) (node.Choice a2 b2 c2) = refl
cmp_by_rows xs (node.Leaf l1) (node.Many o2 ps2) = refl
cmp_by_rows xs (node.One o1 a1) (node.Leaf l2) = refl
cmp_by_rows xs (node.One o1 a1) (node.One o2 a2) = refl
cmp_by_rows xs (node.One o1 a1) (node.Two o2 a2 b2) = refl
cmp_by_rows xs (node.One o1 a1) (node.Choice a2 b2 c2) = refl
cmp_by_rows xs (node.One o1 a1) (node.Many o2 ps2) = refl
cmp_by_rows xs (node.Two o1 a1 b1) (node.Leaf l2) = refl
cmp_by_rows xs (node.Two o1 a1 b1) (node.One o2 a2) = refl
cmp_by_rows xs (node.Two o1 a1 b1) (node.Two o2 a2 b2) = refl
cmp_by_rows xs (node.Two o1 a1 b1) (node.Choice a2 b2 c2) = refl
cmp_by_rows xs (node.Two o1 a1 b1) (node.Many o2 ps2) = refl
cmp_by_rows xs (node.Choice a1 b1 c1) (node.Leaf l2) = refl
cmp_by_rows xs (node.Choice a1 b1 c1) (node.One o2 a2) = refl
cmp_by_rows xs (node.Choice a1 b1 c1) (node.Two o2 a2 b2) = refl
cmp_by_rows xs (node.Choice a1 b1 c1) (node.Choice a2 b2 c2) = refl
cmp_by_rows xs (node.Choice a1 b1 c1) (node.Many o2 ps2) = refl
cmp_by_rows xs (node.Many o1 ps1) (node.Leaf l2) = refl
cmp_by_rows xs (node.Many o1 ps1) (node.One o2 a2) = refl
cmp_by_rows xs (node.Many o1 ps1) (node.Two o2 a2 b2) = refl
cmp_by_rows xs (node.Many o1 ps1) (node.Choice a2 b2 c2) = refl
cmp_by_rows xs (node.Many o1 ps1) (node.Many o2 ps2) = refl
