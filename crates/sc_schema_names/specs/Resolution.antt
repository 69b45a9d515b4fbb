-- What a schema file declares, each name in it looked up. What stands where a name is unknown doesn't matter.
use Rattle.std.specs.Prelude.{◌||◌, ℕ, List, [], ◌∷◌, map, Bool, Option, Some, None, option_map, unwrap_or, if◌then◌else◌, codes}
use Rattle.std.specs.Option.{option_or}
use Rattle.std.specs.Str.{bytes_eq}
use Rattle.sc_names.specs.declared.uid.Uid.{Uid}
use Rattle.sc_schema.specs.declared.ty.Presence.{Presence}
use Rattle.sc_schema.specs.declared.ty.Presence.TheVariants.{Required, Optional}
use Rattle.sc_schema_syntax.specs.declared.attribute.WrittenPresence.{WrittenPresence}
use Rattle.sc_schema_syntax.specs.declared.attribute.WrittenPresence.TheVariants as written
use Rattle.sc_schema_syntax.specs.declared.extension.ExtensionKind.{ExtensionKind}
use Rattle.sc_schema_syntax.specs.declared.extension.ExtensionKind.TheVariants as extension
use Rattle.sc_schema_syntax.specs.declared.written_type.WrittenType.{WrittenType, WrittenType-F, fold-WrittenType}
use Rattle.sc_schema_syntax.specs.declared.written_type.WrittenType.TheOpen as t
use Rattle.sc_schema_syntax.specs.declared.written_action.WrittenAction.{WrittenAction}
use Rattle.sc_schema_syntax.specs.declared.written_action.WrittenParent.{WrittenParent}
use Rattle.sc_schema_syntax.specs.declared.written_common_type.WrittenCommonType.{WrittenCommonType}
use Rattle.sc_schema_syntax.specs.declared.written_entity_type.WrittenEntityType.{WrittenEntityType}
use Rattle.sc_schema_syntax.specs.declared.written_namespace.WrittenNamespace.{WrittenNamespace}
use Rattle.sc_schema_syntax.specs.declared.written_schema.WrittenSchema.{WrittenSchema}
use Rattle.sc_schema.specs.declared.resolved_type.ResolvedType.{ResolvedType}
use Rattle.sc_schema.specs.declared.resolved_type.ResolvedType.TheVariants as type
use Rattle.sc_schema.specs.declared.resolved_action.ResolvedAction.{ResolvedAction}
use Rattle.sc_schema.specs.declared.resolved_common_type.ResolvedCommonType.{ResolvedCommonType}
use Rattle.sc_schema.specs.declared.resolved_entity_type.ResolvedEntityType.{ResolvedEntityType}
use Rattle.sc_schema.specs.declared.resolved_namespace.ResolvedNamespace.{ResolvedNamespace}
use Rattle.sc_schema.specs.declared.resolved_schema.ResolvedSchema.{ResolvedSchema}
use Rattle.sc_schema_names.specs.Names.{Known, known_in, full, uid_of, action_uid, candidates, entity_type_named, common_type_named, action_named}

-- ---- types

abbrev pub is_either : List ℕ → List ℕ → List ℕ → Bool
is_either text word qualified = bytes_eq text word || bytes_eq text qualified

-- the primitive or extension type that a word means where nothing is declared by it
abbrev pub builtin : List ℕ → Option ResolvedType
builtin text =
    if is_either text (codes "Bool") (codes "__cedar::Bool") then Some type.Boolean
    else (if is_either text (codes "Boolean") (codes "__cedar::Boolean") then Some type.Boolean
    else (if is_either text (codes "Long") (codes "__cedar::Long") then Some type.Long
    else (if is_either text (codes "String") (codes "__cedar::String") then Some type.String
    else (if is_either text (codes "ipaddr") (codes "__cedar::ipaddr") then Some type.Ip
    else (if is_either text (codes "decimal") (codes "__cedar::decimal") then Some type.Decimal
    else None)))))

-- what the first of these names is that is declared: a common type before an entity type of the same name
abbrev pub declared_type : Known → List (List ℕ) → Option ResolvedType
declared_type known [] = None
declared_type known (name ∷ names) =
    if known.is_common_type name then Some (type.Common name)
    else (if known.is_entity_type name then Some (type.Entity name)
    else declared_type known names)

-- what a text names that may name any type: one that is declared, or else a primitive or extension type
abbrev pub type_named : Known → List ℕ → List ℕ → Option ResolvedType
type_named known namespace text = option_or (declared_type known (candidates namespace text)) (builtin text)

abbrev pub entity_type_of : Known → List ℕ → List ℕ → List ℕ
entity_type_of known namespace text = unwrap_or (entity_type_named known namespace text) text

abbrev pub common_type_of : Known → List ℕ → List ℕ → List ℕ
common_type_of known namespace text = unwrap_or (common_type_named known namespace text) text

abbrev pub any_type_of : Known → List ℕ → List ℕ → ResolvedType
any_type_of known namespace text = unwrap_or (type_named known namespace text) (type.Entity text)

abbrev pub extension_type : ExtensionKind → ResolvedType
extension_type extension.Ipaddr = type.Ip
extension_type extension.Decimal = type.Decimal

abbrev pub presence_of : WrittenPresence → Presence
presence_of written.Required = Required
presence_of written.Optional = Optional

-- a type in a namespace, each type inside it being seen as what it is
abbrev pub resolved_step : Known → List ℕ → WrittenType-F ResolvedType → ResolvedType
resolved_step known namespace t.Boolean = type.Boolean
resolved_step known namespace t.Long = type.Long
resolved_step known namespace t.String = type.String
resolved_step known namespace (t.Set element) = type.Set element
resolved_step known namespace (t.Record attributes) =
    type.Record (map (λ (a : List ℕ × WrittenPresence × ResolvedType). (a.0, presence_of a.1, a.2)) attributes)
resolved_step known namespace (t.Entity name) = type.Entity (entity_type_of known namespace name)
resolved_step known namespace (t.Extension kind) = extension_type kind
resolved_step known namespace (t.EntityOrCommon name) = any_type_of known namespace name
resolved_step known namespace (t.Common name) = type.Common (common_type_of known namespace name)

unfoldable pub resolved_type : Known → List ℕ → WrittenType → ResolvedType
resolved_type known namespace = fold-WrittenType ResolvedType (resolved_step known namespace)

abbrev pub resolved_attribute : Known → List ℕ → List ℕ × WrittenPresence × WrittenType → List ℕ × Presence
    × ResolvedType
resolved_attribute known namespace a = (a.0, presence_of a.1, resolved_type known namespace a.2)

-- ---- declarations

abbrev pub resolved_parent : Known → List ℕ → WrittenParent → Uid
resolved_parent known namespace p = unwrap_or (action_named known namespace p) (uid_of p.id (unwrap_or p.type_name []))

abbrev pub resolved_action : Known → List ℕ → WrittenAction → ResolvedAction
resolved_action known namespace a =
    record {
      uid = action_uid namespace a.id;
      parents = map (resolved_parent known namespace) a.parents;
      principals = map (entity_type_of known namespace) a.principals;
      resources = map (entity_type_of known namespace) a.resources;
      context = option_map (resolved_type known namespace) a.context;
    }

abbrev pub resolved_common_type : Known → List ℕ → WrittenCommonType → ResolvedCommonType
resolved_common_type known namespace c =
    record {
      key = c.name;
      name = full namespace c.name;
      body = resolved_type known namespace c.body;
    }

abbrev pub resolved_entity_type : Known → List ℕ → WrittenEntityType → ResolvedEntityType
resolved_entity_type known namespace e =
    record {
      key = e.name;
      name = full namespace e.name;
      parents = map (entity_type_of known namespace) e.parents;
      shape = option_map (resolved_type known namespace) e.shape;
      tags = option_map (resolved_type known namespace) e.tags;
      choices = e.choices;
    }

abbrev pub resolved_namespace : Known → WrittenNamespace → ResolvedNamespace
resolved_namespace known n =
    record {
      name = n.name;
      actions = map (resolved_action known n.name) n.actions;
      common_types = map (resolved_common_type known n.name) n.common_types;
      entity_types = map (resolved_entity_type known n.name) n.entity_types;
    }

abbrev pub resolved_by : Known → WrittenSchema → ResolvedSchema
resolved_by known w = record { namespaces = map (resolved_namespace known) w.namespaces }

abbrev pub resolved : WrittenSchema → ResolvedSchema
resolved w = resolved_by (known_in w) w
