-- Nodes that write declared actions alone and pick no member, and tables of such nodes.
use Rattle.std.specs.Prelude.{◌≡◌, ◌<◌, ℕ, Bool, true, false, List, is_some}
use Rattle.std.specs.List.{AllByRecursion}
use Rattle.sc_names.specs.declared.uid.Uid.{Uid}
use Rattle.sc_schema.specs.Declarations.{Declarations, action_ancestors}
use Rattle.sc_sorts.specs.declared.node.BinaryOp.TheVariants as binary
use Rattle.sc_sorts.specs.declared.node.Leaf.TheVariants as leafs
use Rattle.sc_sorts.specs.declared.node.Literal.TheVariants as literal
use Rattle.sc_sorts.specs.declared.node.Node.{Node}
use Rattle.sc_sorts.specs.declared.node.Node.TheVariants as node
use Rattle.sc_terms.specs.Tables.{tree}
use Rattle.sc_terms.specs.Trees.{Tree}
use Rattle.sc_closure_rules.specs.Goals.{has_pick, uids_of}

abbrev pub is_action : Declarations → Uid → Bool
is_action d u = is_some (action_ancestors d u)

abbrev pub is_known_node : Declarations → Node → Bool
is_known_node d (node.Leaf (leafs.Literal (literal.Entity u us))) = is_action d u
is_known_node d (node.Two binary.DifferencePick a b) = false
is_known_node d (node.Two binary.CommonPick a b) = false
is_known_node d _ = true

pub record IsKnown (d : Declarations) (t : Tree) : Type 0 where
  pub picks_none : has_pick t ≡ false
  pub actions : AllByRecursion (λ (u : Uid). is_action d u ≡ true) (uids_of t)

-- the first so many terms of a table are
unfoldable pub AreKnown : Declarations → List Node → ℕ → Type 0
AreKnown d xs count = (n : ℕ) → n < count → IsKnown d (tree xs n)
