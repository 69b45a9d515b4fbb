-- The values that a model gives closed terms are values of their sorts.
use Rattle.std.specs.Prelude.{◌≡◌, List, true}
use Rattle.std.specs.Str.{IsUtf8}
use Rattle.sc_names.specs.declared.uid.Uid.{Uid}
use Rattle.sc_schema.specs.declared.declarations.Env.{Env}
use Rattle.sc_schema.specs.declared.ty.Ty.{Ty}
use Rattle.sc_schema.specs.Declarations.{Declarations}
use Rattle.sc_schema.specs.Lawful.{IsLawful, IsTypeOf}
use Rattle.sc_values.specs.declared.value.Value.{Value}
use Rattle.sc_world.specs.Conforms.{conforms}
use Rattle.sc_world.specs.Stores.{Entities}
use Rattle.sc_world.specs.WellFormed.{IsStored}
use Rattle.sc_sorts.specs.OfTypes.{sort_of}
use Rattle.sc_terms.specs.Trees.{Tree}
use Rattle.sc_terms.specs.TreeSorts.{tree_sort}
use Rattle.sc_term_laws.specs.Fitting.{fits, Fits}
use Rattle.sc_closure_rules.specs.Closure.{Closed}
use Rattle.sc_closure_rules.specs.Goals.{IsGoal}
use Rattle.sc_model_laws.specs.Vals.{Model, val_of}
use Rattle.sc_model_laws.specs.Models.{IsModel}

-- names are texts, and each entity that is named is stored
pub record AreNamesIn (d : Declarations) (env : Env) (goal : Tree) (m : Model) (es : Entities) : Type 0 where
  pub texts : (x : Tree) → Closed d env goal x → IsUtf8 (m.text x)
  pub ids : (x : Tree) → Closed d env goal x → IsUtf8 (m.uid x).id
  pub stored : (x : Tree) → Closed d env goal x → IsStored es (m.uid x)

-- the value of a closed term fits its sort
abbrev pub ClosedValuesFit : Type 0
ClosedValuesFit = (d : Declarations) (env : Env) (literals : List Uid) (goal : Tree) (m : Model) (es : Entities)
    (x : Tree) → IsLawful d → IsGoal d env literals goal → IsModel d env goal m → AreNamesIn d env goal m es
    → Closed d env goal x → Fits d es (tree_sort x) (val_of m (tree_sort x) x)

-- a value that fits the sort of a type that a schema writes conforms to the type
abbrev pub FittingConforms : Type 0
FittingConforms = (d : Declarations) (t : Ty) → IsTypeOf d t → (x : Value) → fits (sort_of t) x ≡ true
    → conforms t x ≡ true
