-- Which terms have the value that is assigned to them.
use Rattle.std.specs.Prelude.{◌≡◌, ◌&&◌, Bool, true, false}
use Rattle.sc_world.specs.declared.world.World.{World}
use Rattle.sc_schema.specs.declared.declarations.Env.{Env}
use Rattle.sc_schema.specs.Declarations.{Declarations}
use Rattle.sc_sorts.specs.declared.sort.Sort.{Sort}
use Rattle.sc_sorts.specs.declared.node.Leaf.{Leaf}
use Rattle.sc_sorts.specs.declared.node.Leaf.TheVariants as leafs
use Rattle.sc_sorts.specs.declared.node.UnaryOp.{UnaryOp}
use Rattle.sc_sorts.specs.declared.node.UnaryOp.TheVariants as unary
use Rattle.sc_sorts.specs.declared.node.BinaryOp.{BinaryOp}
use Rattle.sc_sorts.specs.declared.node.BinaryOp.TheVariants as binary
use Rattle.sc_terms.specs.Trees.{Tree, leaf, one, two, choice, many, Trees, no_part, part}
use Rattle.sc_terms.specs.TreeSorts.{tree_sort}
use Rattle.sc_terms.specs.Values.{val}
use Rattle.sc_closure_rules.specs.Closure.{Closed}
use Rattle.sc_model_laws.specs.Vals.{Model, val_of}

-- in a world a term has the value that a model gives it
abbrev pub IsRight : Model → World → Tree → Type 0
IsRight m w x = val x w ≡ val_of m (tree_sort x) x

abbrev pub is_variable : Leaf → Bool
is_variable (leafs.Literal l) = false
is_variable (leafs.None held) = false
is_variable _ = true

-- what is stored of an entity
abbrev pub is_stored : UnaryOp → Bool
is_stored (unary.Attributes own) = true
is_stored (unary.Ancestors own) = true
is_stored unary.Keys = true
is_stored _ = false

-- The variables have their values, and so has what is stored of an entity that has its value.
pub record HoldsModel (d : Declarations) (env : Env) (goal : Tree) (m : Model) (w : World) : Type 0 where
  pub variables : (l : Leaf) → is_variable l ≡ true → Closed d env goal (leaf l) → IsRight m w (leaf l)
  pub stored : (o : UnaryOp) (e : Tree) → is_stored o ≡ true → Closed d env goal (one o e) → IsRight m w e
      → IsRight m w (one o e)
  pub tags : (own : Sort) (e k : Tree) → Closed d env goal (two (binary.Tag own) e k) → IsRight m w e → IsRight m w k
      → IsRight m w (two (binary.Tag own) e k)

-- picks aren't covered
abbrev pub covers_two : BinaryOp → Bool
covers_two binary.DifferencePick = false
covers_two binary.CommonPick = false
covers_two _ = true

unfoldable mutual
  -- no term in it is a pick
  pub is_covered : Tree → Bool
  is_covered (leaf l) = true
  is_covered (one o a) = is_covered a
  is_covered (two o a b) = covers_two o && (is_covered a && is_covered b)
  is_covered (choice c a b) = is_covered c && (is_covered a && is_covered b)
  is_covered (many o ts) = are_covered ts

  pub are_covered : Trees → Bool
  are_covered no_part = true
  are_covered (part l t ts) = is_covered t && are_covered ts
