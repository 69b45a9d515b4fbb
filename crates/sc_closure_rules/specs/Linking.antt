-- What two terms are places of, and whether two sets are linked, by nodes of a table. No public promise but those on
-- numbers speaks of it.
use Rattle.std.specs.Prelude.{◌≡◌, ◌<◌, ℕ, Bool, true, false, List, length, Option, Some, None, if◌then◌else◌}
use Rattle.sc_sorts.specs.declared.node.Node.{Node}
use Rattle.sc_sorts.specs.declared.node.Node.TheVariants as node
use Rattle.sc_sorts.specs.declared.node.UnaryOp.{UnaryOp}
use Rattle.sc_sorts.specs.declared.node.UnaryOp.TheVariants as unary
use Rattle.sc_sorts.specs.declared.node.BinaryOp.{BinaryOp}
use Rattle.sc_sorts.specs.declared.node.BinaryOp.TheVariants as binary
use Rattle.sc_terms.specs.Tables.{tree}
use Rattle.sc_rule_laws.specs.Places.{roots, same_step}

-- the parts of two nodes that are one step
abbrev pub node_step : Node → Node → Option (ℕ × ℕ)
node_step (node.One o a) (node.One q b) = if same_step o q then Some (a, b) else None
node_step _ _ = None

-- these are what two terms are places of, as far as they are got by the same steps
pub record AreRoots (xs : List Node) (x y a b : ℕ) : Type 0 where
  pub first_in : a < length xs
  pub second_in : b < length xs
  pub are : roots (tree xs x) (tree xs y) ≡ (tree xs a, tree xs b)

-- two operators give the same of an entity: its attributes, its ancestors, or its keys
abbrev pub same_own : UnaryOp → UnaryOp → Bool
same_own (unary.Attributes k) (unary.Attributes l) = true
same_own (unary.Ancestors k) (unary.Ancestors l) = true
same_own unary.Keys unary.Keys = true
same_own _ _ = false

abbrev pub are_tags : BinaryOp → BinaryOp → Bool
are_tags (binary.Tag k) (binary.Tag l) = true
are_tags _ _ = false

-- the entities of two nodes that are both attributes, ancestors, keys or tags
abbrev pub own_nodes : Node → Node → Option (ℕ × ℕ)
own_nodes (node.One o e) (node.One q f) = if same_own o q then Some (e, f) else None
own_nodes (node.Two o e x) (node.Two q f y) = if are_tags o q then Some (e, f) else None
own_nodes _ _ = None
