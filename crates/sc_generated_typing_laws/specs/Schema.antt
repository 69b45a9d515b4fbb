-- The schema of generated policies.
use Rattle.std.specs.Prelude.{ℕ, List, [], ◌∷◌, codes, false, None}
use Rattle.serde_json.specs.Data.{Data, string, array, object, boolean, no_items, item, no_members, member}
use Rattle.sc_names.specs.declared.uid.Uid.{Uid}
use Rattle.sc_schema.specs.Declarations.{Declarations}
use Rattle.sc_schema.specs.declared.declarations.Action.{Action}
use Rattle.sc_schema.specs.declared.declarations.EntityType.{EntityType}
use Rattle.sc_schema.specs.declared.declarations.Env.{Env}
use Rattle.sc_schema.specs.declared.ty.EntityKind.{EntityKind}
use Rattle.sc_schema.specs.declared.ty.Presence.{Presence}
use Rattle.sc_schema.specs.declared.ty.Presence.TheVariants.{Required, Optional}
use Rattle.sc_schema.specs.declared.ty.Ty.{Ty}
use Rattle.sc_schema.specs.declared.ty.Ty.TheVariants as ty

-- the tree of its text
unfoldable pub tree : Data
tree =
    object (member [] (object (member (codes "actions") (object (member (codes "view") (object (member
    (codes "appliesTo") (object (member (codes "context") (object (member (codes "attributes") (object (member
    (codes "addr") (object (member (codes "name") (string (codes "ipaddr")) (member (codes "type") (string
    (codes "Extension")) no_members))) (member (codes "n") (object (member (codes "type") (string
    (codes "Long")) no_members)) (member (codes "name") (object (member (codes "type") (string
    (codes "String")) no_members)) (member (codes "q") (object (member (codes "element") (object (member
    (codes "type") (string (codes "Long")) no_members)) (member (codes "type") (string (codes "Set")) no_members)))
    (member (codes "s") (object (member (codes "element") (object (member (codes "type") (string
    (codes "Boolean")) no_members)) (member (codes "type") (string (codes "Set")) no_members))) (member (codes "t")
    (object (member (codes "element") (object (member (codes "type") (string (codes "Boolean")) no_members)) (member
    (codes "type") (string (codes "Set")) no_members))) no_members))))))) (member (codes "type") (string
    (codes "Record")) no_members))) (member (codes "principalTypes") (array (item (string (codes "User")) no_items))
    (member (codes "resourceTypes") (array (item (string
    (codes "Doc")) no_items)) no_members)))) no_members)) no_members)) (member (codes "entityTypes") (object (member
    (codes "Doc") (object (member (codes "shape") (object (member (codes "attributes") (object (member
    (codes "owner") (object (member (codes "name") (string (codes "User")) (member (codes "type") (string
    (codes "Entity")) no_members))) no_members)) (member (codes "type") (string
    (codes "Record")) no_members))) no_members)) (member (codes "Group") (object (member (codes "memberOfTypes")
    (array (item (string (codes "Group")) no_items)) no_members)) (member (codes "User") (object (member
    (codes "memberOfTypes") (array (item (string (codes "Group")) no_items)) (member (codes "shape") (object (member
    (codes "attributes") (object (member (codes "age") (object (member (codes "type") (string
    (codes "Long")) no_members)) (member (codes "boss") (object (member (codes "name") (string (codes "User"))
    (member (codes "type") (string (codes "Entity")) no_members))) (member (codes "nick") (object (member
    (codes "required") (boolean false) (member (codes "type") (string (codes "String")) no_members))) no_members))))
    (member (codes "type") (string
    (codes "Record")) no_members))) no_members))) no_members)))) no_members))) no_members)

-- ---- what it declares

-- a type of entities that isn't enumerated, as none is
abbrev pub free : List ℕ → EntityKind
free name = record { name = name; choices = [] }

abbrev pub entity : List ℕ → Ty
entity name = ty.Entity (free name)

unfoldable pub context_fields : List (List ℕ × Presence × Ty)
context_fields =
    (codes "addr", Required, ty.Ip) ∷ (codes "n", Required, ty.Long) ∷ (codes "name", Required, ty.String)
    ∷ (codes "q", Required, ty.Set ty.Long) ∷ (codes "s", Required, ty.Set ty.Bool)
    ∷ (codes "t", Required, ty.Set ty.Bool) ∷ []

abbrev pub context : Ty
context = ty.Record context_fields

abbrev pub view : Uid
view = record { type_name = codes "Action"; id = codes "view" }

unfoldable pub document : EntityType
document = record {
  name = codes "Doc";
  ancestors = [];
  shape = ty.Record ((codes "owner", Required, entity (codes "User")) ∷ []);
  tags = None;
  choices = [];
}

unfoldable pub group : EntityType
group = record {
  name = codes "Group";
  ancestors = codes "Group" ∷ [];
  shape = ty.Record [];
  tags = None;
  choices = [];
}

unfoldable pub user : EntityType
user = record {
  name = codes "User";
  ancestors = codes "Group" ∷ [];
  shape = ty.Record
      ((codes "age", Required, ty.Long) ∷ (codes "boss", Required, entity (codes "User"))
      ∷ (codes "nick", Optional, ty.String) ∷ []);
  tags = None;
  choices = [];
}

unfoldable pub viewing : Action
viewing = record {
  uid = view;
  ancestors = [];
  principals = codes "User" ∷ [];
  resources = codes "Doc" ∷ [];
  context = context;
}

-- the schema
unfoldable pub declared : Declarations
declared = record { types = document ∷ group ∷ user ∷ []; actions = viewing ∷ [] }

-- its one environment
abbrev pub environment : Env
environment = record { principal = codes "User"; action = view; resource = codes "Doc" }
