-- Terms as trees, by how many parts they have.
use Rattle.std.specs.Prelude.{ℕ, List, [], ◌∷◌}
use Rattle.sc_sorts.specs.declared.node.Leaf.{Leaf}
use Rattle.sc_sorts.specs.declared.node.UnaryOp.{UnaryOp}
use Rattle.sc_sorts.specs.declared.node.BinaryOp.{BinaryOp}
use Rattle.sc_sorts.specs.declared.node.ManyOp.{ManyOp}

mutual
  pub data Tree : Type 0 where
    leaf : Leaf → Tree
    one : UnaryOp → Tree → Tree
    two : BinaryOp → Tree → Tree → Tree
    choice : Tree → Tree → Tree → Tree
    many : ManyOp → Trees → Tree

  -- parts, each with its label: the name of a record's field, and nothing for a set's member
  pub data Trees : Type 0 where
    no_part : Trees
    part : List ℕ → Tree → Trees → Trees

abbrev pub Labelled : Type 0
Labelled = List ℕ × Tree

-- the parts as a list
abbrev pub listed : Trees → List Labelled
listed no_part = []
listed (part l t ts) = (l, t) ∷ listed ts

abbrev pub parts_of : List Labelled → Trees
parts_of [] = no_part
parts_of (x ∷ xs) = part x.0 x.1 (parts_of xs)
