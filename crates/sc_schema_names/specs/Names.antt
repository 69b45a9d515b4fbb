-- What a schema file declares, by names in full, and what a text in it names.
use Rattle.std.specs.Prelude.{ℕ, ◌==◌, List, [], ◌∷◌, ◌++◌, map, length, Bool, Option, Some, None, if◌then◌else◌, codes}
use Rattle.std.specs.List.{flat_map, find}
use Rattle.sc_lists.specs.Ordered.{is_in}
use Rattle.sc_names.specs.declared.uid.Uid.{Uid}
use Rattle.sc_names.specs.Names.{is_ident}
use Rattle.sc_names.specs.Uids.{text_cmp, uid_cmp}
use Rattle.sc_schema_syntax.specs.declared.written_action.WrittenAction.{WrittenAction}
use Rattle.sc_schema_syntax.specs.declared.written_action.WrittenParent.{WrittenParent}
use Rattle.sc_schema_syntax.specs.declared.written_common_type.WrittenCommonType.{WrittenCommonType}
use Rattle.sc_schema_syntax.specs.declared.written_entity_type.WrittenEntityType.{WrittenEntityType}
use Rattle.sc_schema_syntax.specs.declared.written_namespace.WrittenNamespace.{WrittenNamespace}
use Rattle.sc_schema_syntax.specs.declared.written_schema.WrittenSchema.{WrittenSchema}

-- ---- names in full

-- the full name of what a namespace declares: the namespace's name, `::` and the name; in the empty namespace the
-- name itself
abbrev pub full : List ℕ → List ℕ → List ℕ
full namespace name = if length namespace == 0 then name else namespace ++ (codes "::" ++ name)

-- the type of the actions of a namespace
abbrev pub action_type : List ℕ → List ℕ
action_type namespace = full namespace (codes "Action")

abbrev pub uid_of : List ℕ → List ℕ → Uid
uid_of id type_name = record { type_name = type_name; id = id }

-- the uid of the action of a namespace with this id
abbrev pub action_uid : List ℕ → List ℕ → Uid
action_uid namespace id = uid_of id (action_type namespace)

-- ---- what is declared

abbrev pub entity_types_of : WrittenNamespace → List (List ℕ)
entity_types_of n = map (λ (t : WrittenEntityType). full n.name t.name) n.entity_types

abbrev pub common_types_of : WrittenNamespace → List (List ℕ)
common_types_of n = map (λ (t : WrittenCommonType). full n.name t.name) n.common_types

abbrev pub actions_of : WrittenNamespace → List Uid
actions_of n = map (λ (a : WrittenAction). action_uid n.name a.id) n.actions

abbrev pub entity_types : WrittenSchema → List (List ℕ)
entity_types w = flat_map entity_types_of w.namespaces

abbrev pub common_types : WrittenSchema → List (List ℕ)
common_types w = flat_map common_types_of w.namespaces

abbrev pub actions : WrittenSchema → List Uid
actions w = flat_map actions_of w.namespaces

-- which names and uids are declared
pub record Known : Type 0 where
  pub is_entity_type : List ℕ → Bool
  pub is_common_type : List ℕ → Bool
  pub is_action : Uid → Bool

unfoldable pub known_in : WrittenSchema → Known
known_in w =
    record {
      is_entity_type = λ name. is_in text_cmp name (entity_types w);
      is_common_type = λ name. is_in text_cmp name (common_types w);
      is_action = λ uid. is_in uid_cmp uid (actions w);
    }

-- ---- what a text in a namespace names

-- the names that a text may mean: an identifier first a name of its namespace, then one of the empty namespace; any
-- other text the name as it is written
abbrev pub candidates : List ℕ → List ℕ → List (List ℕ)
candidates namespace text = if is_ident text then full namespace text ∷ text ∷ [] else text ∷ []

-- the first that is a declared entity type
abbrev pub entity_type_named : Known → List ℕ → List ℕ → Option (List ℕ)
entity_type_named known namespace text = find known.is_entity_type (candidates namespace text)

-- the first that is a declared common type
abbrev pub common_type_named : Known → List ℕ → List ℕ → Option (List ℕ)
common_type_named known namespace text = find known.is_common_type (candidates namespace text)

-- the types that an item of `memberOf` may mean: where it has none, that of the actions of its namespace
abbrev pub action_types : List ℕ → Option (List ℕ) → List (List ℕ)
action_types namespace None = action_type namespace ∷ []
action_types namespace (Some text) = candidates namespace text

-- the first declared action of one of these types with the item's id
abbrev pub action_named : Known → List ℕ → WrittenParent → Option Uid
action_named known namespace parent =
    find known.is_action (map (uid_of parent.id) (action_types namespace parent.type_name))
