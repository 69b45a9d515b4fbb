-- Which closed terms are atoms: truth values that are neither `false` nor negations.
use Rattle.std.specs.Prelude.{◌≡◌, ◌<◌, ◌&&◌, ℕ, Bool, true, false, not, List, filter, length, ⊤}
use Rattle.std.specs.List.{AllByRecursion, IsDistinct}
use Rattle.sc_lists.specs.declared.fault.Fault.{Fault}
use Rattle.sc_lists.specs.declared.fault.Fault.TheVariants.{Told, NoMemory}
use Rattle.sc_schema.specs.declared.declarations.Env.{Env}
use Rattle.sc_schema.specs.Declarations.{Declarations}
use Rattle.sc_sorts.specs.declared.sort.Sort.{Sort, Sort-F, out-Sort}
use Rattle.sc_sorts.specs.declared.sort.Sort.TheOpen as s
use Rattle.sc_sorts.specs.declared.node.Leaf.TheVariants.{Literal}
use Rattle.sc_sorts.specs.declared.node.Literal.TheVariants.{Bool as bool}
use Rattle.sc_sorts.specs.declared.node.UnaryOp.TheVariants.{Not}
use Rattle.sc_terms.specs.Trees.{Tree, leaf, one}
use Rattle.sc_terms.specs.TreeSorts.{tree_sort}
use Rattle.sc_terms.specs.Order.{tree_eq}
use Rattle.sc_closure_rules.specs.Closure.{Closed}

abbrev pub is_bool_in : Sort-F Sort → Bool
is_bool_in s.Bool = true
is_bool_in _ = false

-- a truth value
abbrev pub is_bool : Tree → Bool
is_bool t = is_bool_in (out-Sort (tree_sort t))

-- `false`, or a negation
abbrev pub is_opposite : Tree → Bool
is_opposite (leaf (Literal (bool false))) = true
is_opposite (one Not a) = true
is_opposite _ = false

abbrev pub is_atom : Tree → Bool
is_atom t = is_bool t && not (is_opposite t)

abbrev pub atoms_among : List Tree → List Tree
atoms_among ts = filter is_atom ts

-- no more atoms are listed
abbrev pub most_atoms : ℕ
most_atoms = 4194304

-- a closed term that is an atom
pub record IsClosedAtom (d : Declarations) (env : Env) (goal t : Tree) : Type 0 where
  pub closed : Closed d env goal t
  pub atom : is_atom t ≡ true

-- more atoms than that are closed: here are so many, each once
pub record IsOverLimit (d : Declarations) (env : Env) (goal : Tree) : Type 0 where
  pub atoms : List Tree
  pub once : IsDistinct tree_eq atoms
  pub closed : AllByRecursion (IsClosedAtom d env goal) atoms
  pub more : most_atoms < length atoms

-- why a goal has no closed terms to be listed: they are over the limit, or memory ran out
abbrev pub IsRefused : {E : Type 0} → Declarations → Env → Tree → Fault E → Type 0
IsRefused d env goal (Told fault) = IsOverLimit d env goal
IsRefused d env goal NoMemory = ⊤
