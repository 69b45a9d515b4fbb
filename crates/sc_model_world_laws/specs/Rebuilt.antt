-- The world that a model stands for: a request, and what closed terms tell of entities. All else is as it is by
-- default.
use Rattle.std.specs.Prelude.{◌≡◌, ◌&&◌, ℕ, List, [], ◌∷◌, map, flat_map, Option, Some, None, unwrap_or, if◌then◌else◌, refl}
use Rattle.std.specs.Str.{bytes_eq}
use Rattle.std.specs.BTreeSet.{insert_key}
use Rattle.std.specs.declared.cmp.Ordering.{Ordering}
use Rattle.sc_names.specs.declared.uid.Uid.{Uid}
use Rattle.sc_names.specs.Uids.{text_cmp, uid_cmp}
use Rattle.sc_schema.specs.declared.declarations.Env.{Env}
use Rattle.sc_schema.specs.declared.ty.Ty.{Ty}
use Rattle.sc_schema.specs.Declarations.{Declarations, uid_eq, tags_of, context_of}
use Rattle.sc_values.specs.declared.value.Value.{Value}
use Rattle.sc_values.specs.declared.value.Value.TheVariants.{Record}
use Rattle.sc_values.specs.Records.{Fields}
use Rattle.sc_world.specs.declared.entity.EntityData.{EntityData}
use Rattle.sc_world.specs.declared.world.Request.{Request}
use Rattle.sc_world.specs.declared.world.World.{World}
use Rattle.sc_world.specs.Defaults.{default_value, default_attrs, default_fields}
use Rattle.sc_world.specs.Given.{AreAsGiven, StoresNamedWith}
use Rattle.sc_world.specs.Stores.{Entities, IsMap, with_entity}
use Rattle.sc_sorts.specs.declared.sort.Sort.{Sort, Sort-F, out-Sort}
use Rattle.sc_sorts.specs.declared.sort.Sort.TheOpen as s
use Rattle.sc_sorts.specs.declared.node.Leaf.TheVariants.{Context}
use Rattle.sc_sorts.specs.declared.node.UnaryOp.TheVariants as unary
use Rattle.sc_sorts.specs.declared.node.BinaryOp.TheVariants as binary
use Rattle.sc_terms.specs.Trees.{Tree, leaf, one, two}
use Rattle.sc_terms.specs.TreeSorts.{tree_sort}
use Rattle.sc_terms.specs.Values.{value_in, record_in}
use Rattle.sc_closure_rules.specs.Closure.{principal_term, resource_term}
use Rattle.sc_model_laws.specs.Vals.{Model, assigned, val_of}

abbrev pub or_said : {X : Type 0} → Option X → Option X → Option X
or_said (Some x) o = Some x
or_said None o = o

-- what the first term says that says something
unfoldable pub first_said : {X : Type 0} → (Tree → Option X) → List Tree → Option X
first_said f [] = None
first_said f (x ∷ xs) = or_said (f x) (first_said f xs)

-- ---- what a closed term says of an entity

abbrev pub attributes_said : Model → Uid → Tree → Option Fields
attributes_said m u (one (unary.Attributes own) e) =
    if uid_eq (m.uid e) u then Some (record_in (val_of m own (one (unary.Attributes own) e))) else None
attributes_said m u _ = None

abbrev pub ancestors_said : Model → Uid → Tree → List Uid
ancestors_said m u (one (unary.Ancestors own) e) =
    if uid_eq (m.uid e) u then map m.uid (assigned m (one (unary.Ancestors own) e)) else []
ancestors_said m u _ = []

abbrev pub keys_said : Model → Uid → Tree → List (List ℕ)
keys_said m u (one unary.Keys e) = if uid_eq (m.uid e) u then map m.text (assigned m (one unary.Keys e)) else []
keys_said m u _ = []

abbrev pub tag_said : Model → Uid → List ℕ → Tree → Option Value
tag_said m u key (two (binary.Tag own) e k) =
    if uid_eq (m.uid e) u && bytes_eq (m.text k) key
    then Some (value_in (val_of m own (two (binary.Tag own) e k)))
    else None
tag_said m u key _ = None

abbrev pub context_said : Model → Tree → Option Fields
context_said m (leaf (Context k)) = Some (record_in (val_of m k (leaf (Context k))))
context_said m _ = None

-- an entity of no type of actions
abbrev pub entity_by : Sort-F Sort → Uid → List Uid
entity_by (s.Entity name []) u = u ∷ []
entity_by _ u = []

abbrev pub entity_said : Model → Tree → List Uid
entity_said m x = entity_by (out-Sort (tree_sort x)) (m.uid x)

-- ---- what is stored of an entity

-- in ascending order, each once
unfoldable pub in_order : {K : Type 0} → (K → K → Ordering) → List K → List K
in_order cmp [] = []
in_order cmp (x ∷ xs) = insert_key cmp (in_order cmp xs) x

abbrev pub tag_default : Declarations → Option Ty → Value
tag_default d (Some t) = default_value d t
tag_default d None = Record []

abbrev pub tag_at : Declarations → Model → Uid → List ℕ → List ℕ × Value
tag_at d m u key = (key, unwrap_or (first_said (tag_said m u key) m.closed) (tag_default d (tags_of d u.type_name)))

abbrev pub data_of : Declarations → Model → Uid → EntityData
data_of d m u = record {
  attrs = unwrap_or (first_said (attributes_said m u) m.closed) (default_attrs d u.type_name);
  ancestors = in_order uid_cmp (flat_map (ancestors_said m u) m.closed);
  tags = map (tag_at d m u) (in_order text_cmp (flat_map (keys_said m u) m.closed));
}

unfoldable pub given_from : Declarations → Model → List Uid → Entities
given_from d m [] = []
given_from d m (u ∷ us) = with_entity u (data_of d m u) (given_from d m us)

-- the entities of closed terms whose types list none: no actions, and none of enumerated types
abbrev pub given_of : Declarations → Model → Entities
given_of d m = given_from d m (flat_map (entity_said m) m.closed)

abbrev pub request_of : Declarations → Env → Model → Request
request_of d env m = record {
  principal = m.uid (principal_term d env);
  action = env.action;
  resource = m.uid (resource_term d env);
  context = unwrap_or (first_said (context_said m) m.closed) (default_fields d (context_of d env.action));
}

-- the world of this request in which these entities are given
pub record IsRebuilt (d : Declarations) (env : Env) (literals : List Uid) (m : Model) (w : World) : Type 0 where
  pub request : w.request ≡ request_of d env m
  pub ascending : IsMap w.store
  pub given : AreAsGiven d (given_of d m) w.store
  pub stored : StoresNamedWith d (given_of d m) (request_of d env m) literals w.store

-- ---- worked rows

pub keys_say_no_ancestor : (m : Model) (u : Uid) (e : Tree) → ancestors_said m u (one unary.Keys e) ≡ []
keys_say_no_ancestor m u e = refl

pub second_says : (f : Tree → Option ℕ) (x y : Tree) → f x ≡ None → f y ≡ Some 7 → first_said f (x ∷ y ∷ []) ≡ Some 7
unfolding first_said
second_says f x y e g = rw (e, g) refl

pub each_once : in_order text_cmp ((98 ∷ []) ∷ (97 ∷ []) ∷ (98 ∷ []) ∷ []) ≡ (97 ∷ []) ∷ (98 ∷ []) ∷ []
unfolding in_order
each_once = refl

pub plain_is_given : (name : List ℕ) (u : Uid) → entity_by (s.Entity name []) u ≡ u ∷ []
plain_is_given name u = refl

pub none_listed_is_given : (name : List ℕ) (u v : Uid) → entity_by (s.Entity name (v ∷ [])) u ≡ []
none_listed_is_given name u v = refl
