-- What `has` finds along the names after it, one after the other, as if they were joined by `&&`.
use Rattle.std.specs.Prelude.{ℕ, List, [], ◌∷◌, ◌++◌, Bool, ◌&&◌, ◌||◌, if◌then◌else◌, Result, Ok}
use Rattle.std.specs.Option.{option_map_or}
use Rattle.sc_ast.specs.declared.place.Place.{Place}
use Rattle.sc_ast.specs.declared.expr.Expr.{Expr}
use Rattle.sc_ast.specs.declared.expr.Expr.TheVariants as expr
use Rattle.sc_schema.specs.declared.ty.Ty.{Ty}
use Rattle.sc_schema.specs.declared.ty.Ty.TheVariants as ty
use Rattle.sc_schema.specs.Declarations.{Declarations}
use Rattle.sc_typed.specs.declared.capability.Capability.{Capability}
use Rattle.sc_typed.specs.declared.capability.Key.TheVariants.{Attribute}
use Rattle.sc_typed.specs.declared.fault.TypeFault.{TypeFault}
use Rattle.sc_typing_rules.specs.declared.path.Path.{Path}
use Rattle.sc_typed.specs.declared.typed_expr.HasStep.{HasStep}
use Rattle.sc_typed.specs.Types.{Field, is_record, is_required, attribute}
use Rattle.sc_typed.specs.Capabilities.{Capabilities, nowhere, is_known}
use Rattle.sc_typed.specs.Outcomes.{◌>>=◌, as_object}

-- what a name is asked of: its expression without places, its place and its type
pub record Subject : Type 0 where
  pub object : Expr
  pub at : Place
  pub type : Ty

-- the attribute of a subject, whose place is that of the word `has`
abbrev pub attribute_in : Place → Subject → List ℕ → Field → Subject
attribute_in place o name f = record { object = expr.Access nowhere o.object name; at = place; type = f.2 }

abbrev pub step : List ℕ → Ty → Ty → HasStep
step name object found = record { name = name; object = object; found = found }

-- no names
abbrev pub no_names : Path
no_names = record { steps = []; found = ty.True; given = []; skipped = [] }

-- a name more that is never there, asked of an object of a type; the names after it are skipped
abbrev pub ended : Path → Ty → List ℕ → List (List ℕ) → Path
ended p type name names = record {
  steps = p.steps ++ step name type ty.False ∷ [];
  found = ty.False;
  given = [];
  skipped = names;
}

-- a name more that is always there
abbrev pub held : Path → Ty → List ℕ → Path
held p type name = record {
  steps = p.steps ++ step name type ty.True ∷ [];
  found = p.found;
  given = p.given;
  skipped = [];
}

-- a name more that may be there or not, and is where its capability holds
abbrev pub maybe_held : Path → Ty → List ℕ → Capability → Path
maybe_held p type name c = record {
  steps = p.steps ++ step name type ty.Bool ∷ [];
  found = ty.Bool;
  given = p.given
      ++ c ∷ [];
  skipped = [];
}

-- each record has what its type requires
abbrev pub has_always : Ty → Field → Bool
has_always type f = is_record type && is_required f

abbrev pub named : Expr → List ℕ → Capability
named object name = record { object = object; key = Attribute name }

-- a name more that is declared
abbrev pub longer : Capabilities → Path → Expr → Ty → List ℕ → Field → Path
longer known p object type name f =
    if has_always type f || is_known (known ++ p.given) (named object name) then held p type name
    else maybe_held p type name (named object name)

-- the path so far, and the names to come, of which the first is asked of a subject
abbrev pub along : Declarations → Place → Capabilities → Subject → Path → List (List ℕ) → Result Path TypeFault
along s place known o p [] = Ok p
along s place known o p (name ∷ names) =
    as_object s o.at o.type >>= λ fields.
    option_map_or (λ (f : Field). along s place known (attribute_in place o name f)
    (longer known p o.object o.type name f) names) (attribute name fields) (Ok (ended p o.type name names))
