-- What is kept beside a schema's declarations, so that it is answered by reference.
use Rattle.std.specs.Prelude.{◌≡◌, ℕ, List, [], Option, Some, None, if◌then◌else◌}
use Rattle.std.specs.BTreeMap.{is_at}
use Rattle.std.specs.List.{list_any}
use Rattle.std.specs.Map.{lookup}
use Rattle.std.specs.Str.{bytes_eq}
use Rattle.sc_names.specs.Uids.{text_cmp}
use Rattle.sc_schema.specs.declared.ty.Ty.TheVariants.{Record}
use Rattle.sc_schema.specs.declared.declarations.Action.{Action}
use Rattle.sc_schema.specs.declared.index.Index.{Index}
use Rattle.sc_schema.specs.Declarations.{Declarations, environments, entity_types, action_uids, in_order, types_above}

-- the types of the actions that actions of a type are in, where there is an action of the type
abbrev pub types_above_actions : List Action → List ℕ → Option (List (List ℕ))
types_above_actions actions name =
    if list_any (λ (a : Action). bytes_eq name a.uid.type_name) actions
    then Some (in_order (types_above actions name)) else None

abbrev pub Above : Type 0
Above = List (List ℕ × List (List ℕ))

-- each type of actions is listed with the types above it
abbrev pub IsAbove : List Action → Above → Type 0
IsAbove actions above = (name : List ℕ) → lookup (is_at (text_cmp name)) above ≡ types_above_actions actions name

pub record IsIndexOf (s : Declarations) (i : Index) : Type 0 where
  pub envs : i.environment_list ≡ environments s
  pub names : i.type_names ≡ entity_types s
  pub uids : i.action_uids ≡ action_uids s
  pub above : IsAbove s.actions i.above_actions.entries
  pub none : i.no_attributes ≡ []
  pub bare : i.shape_of_actions ≡ Record []
  pub free : i.no_choices ≡ []
