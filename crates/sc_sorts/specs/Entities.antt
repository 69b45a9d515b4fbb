-- The sort of a type's entities, and which entities it lists.
use Rattle.std.specs.Prelude.{ℕ, List, map, Contains, if◌then◌else◌}
use Rattle.std.specs.List.{filter}
use Rattle.std.specs.Str.{bytes_eq}
use Rattle.sc_names.specs.declared.uid.Uid.{Uid}
use Rattle.sc_schema.specs.declared.ty.EntityKind.{EntityKind}
use Rattle.sc_schema.specs.Declarations.{Declarations, action_uids, is_action_type, kind_of}
use Rattle.sc_sorts.specs.declared.sort.Sort.{Sort}
use Rattle.sc_sorts.specs.declared.sort.Sort.TheVariants.{Entity}

-- those of a type
abbrev pub of_type_name : List ℕ → List Uid → List Uid
of_type_name name us = filter (λ (u : Uid). bytes_eq name u.type_name) us

-- the entity of a type with an id
abbrev pub uid_of : List ℕ → List ℕ → Uid
uid_of name id = record { type_name = name; id = id }

-- the choices of an enumerated type, in their order
abbrev pub uids_of : EntityKind → List Uid
uids_of kind = map (uid_of kind.name) kind.choices

-- the entities of a type, where it has no others: the declared actions of a type of actions, and the choices of an
-- enumerated type; of another type none are listed
abbrev pub choices_of : Declarations → List ℕ → List Uid
choices_of s name = if is_action_type s name then of_type_name name (action_uids s) else uids_of (kind_of s name)

-- an entity that its type lists: a declared action, or a choice of an enumerated type
abbrev pub IsListed : Declarations → Uid → Type 0
IsListed s u = Contains (choices_of s u.type_name) u

abbrev pub entity_sort : Declarations → List ℕ → Sort
entity_sort s name = Entity name (choices_of s name)
