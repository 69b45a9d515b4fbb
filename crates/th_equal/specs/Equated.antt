-- Equations of a table, and their sides.
use Rattle.std.specs.Prelude.{◌≡◌, ◌≢◌, ◌<◌, ℕ, length, Option, Some, None}
use Rattle.sc_sorts.specs.declared.node.BinaryOp.TheVariants.{Equal}
use Rattle.sc_terms.specs.Trees.{Tree, two}
use Rattle.sc_terms.specs.Tables.{tree}
use Rattle.sc_footprint.specs.Problems.{Posed}

-- two numbers of the table stand for the sides of an equation
pub record AreSides (p : Posed) (t : Tree) (a b : ℕ) : Type 0 where
  pub first_in : a < length p.nodes
  pub second_in : b < length p.nodes
  pub is : t ≡ two Equal (tree p.nodes a) (tree p.nodes b)

-- where a term is one
abbrev pub AreSidesIf : Posed → Tree → Option (ℕ × ℕ) → Type 0
AreSidesIf p t (Some (a, b)) = AreSides p t a b
AreSidesIf p t None = (a b : Tree) → t ≢ two Equal a b
