-- The schema of generated policies between its text and what it declares: as it is written, with its names looked up,
-- and with types written out. No promise speaks of this.
use Rattle.std.specs.Prelude.{[], ◌∷◌, codes, Some, None}
use Rattle.sc_schema.specs.declared.ty.Presence.TheVariants as presence
use Rattle.sc_schema.specs.declared.expanded.ExpandedAction.{ExpandedAction}
use Rattle.sc_schema.specs.declared.expanded.ExpandedEntityType.{ExpandedEntityType}
use Rattle.sc_schema.specs.declared.expanded.ExpandedSchema.{ExpandedSchema}
use Rattle.sc_schema.specs.declared.resolved_type.ResolvedType.{ResolvedType}
use Rattle.sc_schema.specs.declared.resolved_type.ResolvedType.TheVariants as type
use Rattle.sc_schema.specs.declared.resolved_schema.ResolvedSchema.{ResolvedSchema}
use Rattle.sc_schema_syntax.specs.declared.attribute.WrittenPresence.TheVariants.{Required, Optional}
use Rattle.sc_schema_syntax.specs.declared.extension.ExtensionKind.TheVariants.{Ipaddr}
use Rattle.sc_schema_syntax.specs.declared.written_schema.WrittenSchema.{WrittenSchema}
use Rattle.sc_schema_syntax.specs.declared.written_type.WrittenType.{WrittenType}
use Rattle.sc_schema_syntax.specs.declared.written_type.WrittenType.TheVariants as written
use Rattle.sc_generated_typing_laws.specs.Schema.{context, view, document, group, user}

-- ---- as it is written

abbrev pub context_written : WrittenType
context_written =
    written.Record ((codes "addr", Required, written.Extension Ipaddr) ∷ (codes "n", Required, written.Long) ∷
    (codes "name", Required, written.String)
    ∷ (codes "q", Required, written.Set written.Long) ∷ (codes "s", Required, written.Set written.Boolean) ∷
    (codes "t", Required, written.Set written.Boolean) ∷ [])

abbrev pub document_written : WrittenType
document_written = written.Record ((codes "owner", Required, written.Entity (codes "User")) ∷ [])

abbrev pub user_written : WrittenType
user_written =
    written.Record ((codes "age", Required, written.Long) ∷ (codes "boss", Required, written.Entity (codes "User"))
    ∷ (codes "nick", Optional, written.String) ∷ [])

unfoldable pub written_schema : WrittenSchema
written_schema = record {
  namespaces = record {
    name = [];
    actions = record {
      id = codes "view";
      parents = [];
      principals = codes "User" ∷ [];
      resources = codes "Doc" ∷ [];
      context = Some context_written;
    } ∷ [];
    common_types = [];
    entity_types =
        record { name = codes "Doc"; parents = []; shape = Some document_written; tags = None; choices = [] }
        ∷ record { name = codes "Group"; parents = codes "Group" ∷ []; shape = None; tags = None; choices = [] }
        ∷ record {
          name = codes "User";
          parents = codes "Group" ∷ [];
          shape = Some user_written;
          tags = None;
          choices = [];
        } ∷ [];
  } ∷ [];
}

-- ---- with its names looked up

abbrev pub context_resolved : ResolvedType
context_resolved =
    type.Record ((codes "addr", presence.Required, type.Ip) ∷ (codes "n", presence.Required, type.Long) ∷
    (codes "name", presence.Required, type.String)
    ∷ (codes "q", presence.Required, type.Set type.Long) ∷ (codes "s", presence.Required, type.Set type.Boolean) ∷
    (codes "t", presence.Required, type.Set type.Boolean) ∷ [])

abbrev pub document_resolved : ResolvedType
document_resolved = type.Record ((codes "owner", presence.Required, type.Entity (codes "User")) ∷ [])

abbrev pub user_resolved : ResolvedType
user_resolved =
    type.Record ((codes "age", presence.Required, type.Long) ∷ (
      codes "boss",
      presence.Required,
      type.Entity
          (codes "User"),
    ) ∷ (codes "nick", presence.Optional, type.String) ∷ [])

unfoldable pub resolved_schema : ResolvedSchema
resolved_schema = record {
  namespaces = record {
    name = [];
    actions = record {
      uid = view;
      parents = [];
      principals = codes "User" ∷ [];
      resources = codes "Doc" ∷ [];
      context = Some context_resolved;
    } ∷ [];
    common_types = [];
    entity_types =
        record {
          key = codes "Doc";
          name = codes "Doc";
          parents = [];
          shape = Some document_resolved;
          tags = None;
          choices = [];
        }
        ∷ record {
          key = codes "Group";
          name = codes "Group";
          parents = codes "Group" ∷ [];
          shape = None;
          tags = None;
          choices = [];
        }
        ∷ record {
          key = codes "User";
          name = codes "User";
          parents = codes "Group" ∷ [];
          shape = Some user_resolved;
          tags = None;
          choices = [];
        } ∷ [];
  } ∷ [];
}

-- ---- with types written out

unfoldable pub document_expanded : ExpandedEntityType
document_expanded = record { name = codes "Doc"; parents = []; shape = document.shape; tags = None; choices = [] }

unfoldable pub group_expanded : ExpandedEntityType
group_expanded = record {
  name = codes "Group";
  parents = codes "Group" ∷ [];
  shape = group.shape;
  tags = None;
  choices = [];
}

unfoldable pub user_expanded : ExpandedEntityType
user_expanded = record {
  name = codes "User";
  parents = codes "Group" ∷ [];
  shape = user.shape;
  tags = None;
  choices = [];
}

unfoldable pub viewing_expanded : ExpandedAction
viewing_expanded = record {
  uid = view;
  parents = [];
  principals = codes "User" ∷ [];
  resources = codes "Doc" ∷ [];
  context = context;
}

unfoldable pub expanded : ExpandedSchema
expanded = record {
  entity_types = document_expanded ∷ group_expanded ∷ user_expanded ∷ [];
  actions = viewing_expanded ∷ [];
}
