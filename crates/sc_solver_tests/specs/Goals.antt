-- Numbers of a table that stand for goals.
use Rattle.std.specs.Prelude.{◌<◌, ℕ, List, Some, length}
use Rattle.sc_schema.specs.declared.ty.Ty.{Ty}
use Rattle.sc_sorts.specs.declared.node.Node.{Node}
use Rattle.sc_terms.specs.Tables.{tree}
use Rattle.sc_term_laws.specs.Booleans.{IsBoolean}

-- a number of the table stands for a term of the fragment of Booleans, where the context is of this type
pub record IsGoal (type : Ty) (nodes : List Node) (n : ℕ) : Type 0 where
  pub within : n < length nodes
  pub boolean : IsBoolean (Some type) (tree nodes n)
