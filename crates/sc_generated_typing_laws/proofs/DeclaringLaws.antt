-- What the schema declares: who stands above whom, and that it is what its text spells.
use Rattle.std.proofs.Common.{◌≡◌, ℕ, ◌≤◌, List, [], ◌∷◌, codes, length, true, false, inl, inr, refl, sym, ap, subst, arith, ◌∙◌}
use Rattle.std.specs.Prelude.{Contains}
use Rattle.std.specs.List.Sorted.{IsStrictlySortedBy}
use Rattle.std.specs.Str.{bytes_eq}
use Rattle.std.specs.declared.cmp.Ordering.{Ordering}
use Rattle.sc_graphs.specs.Reaching.{step, on}
use Rattle.sc_lists.proofs.ListLaws.{contains_first, contains_nothing, contains_split}
use Rattle.sc_names.specs.Uids.{text_cmp, uid_cmp}
use Rattle.sc_names.specs.declared.uid.Uid.{Uid}
use Rattle.sc_schema.specs.Declarations.{environments}
use Rattle.sc_schema.specs.declared.declarations.EntityType.{EntityType}
use Rattle.sc_schema_json.specs.Above.{Links, IsParent, IsAbove, AreAbove, NoCycle}
use Rattle.sc_schema_json.specs.Schemas.{type_links, action_links, AreInOrder, IsEntityTypeOf, IsActionOf, AreTypesOf, AreActionsOf, IsSchemaOf}
use Rattle.sc_schema_json.specs.Spelling.{Spells, links_of, max_environments}
use Rattle.sc_schema_syntax.specs.Written.{schema_of}
use Rattle.sc_schema.specs.declared.expanded.ExpandedAction.{ExpandedAction}
use Rattle.sc_schema.specs.declared.expanded.ExpandedEntityType.{ExpandedEntityType}
use Rattle.sc_generated.specs.Generated.{schema_text}
use Rattle.sc_generated_typing_laws.specs.Schema.{tree, view, document, group, user, viewing, declared}
use Rattle.sc_generated_typing_laws.specs.Steps.{resolved_schema, document_expanded, group_expanded, user_expanded, viewing_expanded}
use Rattle.sc_generated_typing_laws.specs.Steps as steps
use Rattle.sc_generated_typing_laws.proofs.SchemaLaws.{written}
use Rattle.sc_generated_typing_laws.proofs.ResolvingLaws.{names_known}
use Rattle.sc_generated_typing_laws.proofs.ExpandingLaws.{no_types, is_expansion}

-- ---- lists of one

one_sorted : {K : Type 0} (cmp : K → K → Ordering) (k : K) → IsStrictlySortedBy cmp (k ∷ [])
unfolding IsStrictlySortedBy
one_sorted cmp k = (tt, tt)

none_sorted : {K : Type 0} (cmp : K → K → Ordering) → IsStrictlySortedBy cmp []
unfolding IsStrictlySortedBy
none_sorted cmp = tt

only : {X : Type 0} (x y : X) → Contains (x ∷ []) y → x ≡ y
only x y has = elim (contains_split x [] y has) [ inl e ↦ e | inr rest ↦ absurd (contains_nothing y rest) ]

-- ---- actions, none of which is in another

abbrev apart : Uid → List Uid → Uid × List Uid
apart u above = (u, above)

abbrev alone : Uid × List Uid
alone = apart view []

no_parent : (a b : Uid) → IsParent (alone ∷ []) a b → ⊥
no_parent a b p =
    let same : alone ≡ apart a p.above = only alone (apart a p.above) p.listed in
    contains_nothing b (subst (λ (us : List Uid). Contains us b) (sym (ap (λ (l : Uid × List Uid). l.1) same)) p.parent)

no_above : (a b : Uid) → IsAbove (alone ∷ []) a b → ⊥
no_above a b (step _ _ p) = no_parent a b p
no_above a b (on _ c _ p r) = no_parent a c p

no_cycle : NoCycle (links_of resolved_schema)
unfolding resolved_schema
no_cycle k r = no_above k k r

-- ---- groups are in groups, and users are

abbrev Link : Type 0
Link = List ℕ × List (List ℕ)

abbrev link : List ℕ → List (List ℕ) → Link
link name above = (name, above)

abbrev grouped : List ℕ → Link
grouped name = link name (codes "Group" ∷ [])

abbrev links : Links (List ℕ)
links = link (codes "Doc") [] ∷ grouped (codes "Group") ∷ grouped (codes "User") ∷ []

-- what stands above something is a group, and it stands above no document
record IsGroup (a b : List ℕ) : Type 0 where
  group : b ≡ codes "Group"
  below : bytes_eq a (codes "Doc") ≡ false

in_group : (a b name : List ℕ) (above : List (List ℕ)) → grouped name ≡ link a above → bytes_eq name (codes "Doc") ≡ false → Contains above b → IsGroup a b
in_group a b name above same other has = record {
  group = sym (only (codes "Group") b (subst (λ (ks : List (List ℕ)). Contains ks b) (sym (ap (λ (l : Link). l.1) same)) has));
  below = ap (λ (l : Link). bytes_eq l.0 (codes "Doc")) (sym same) ∙ other;
}

parent_is : (a b : List ℕ) → IsParent links a b → IsGroup a b
parent_is a b p = elim (contains_split (link (codes "Doc") []) (grouped (codes "Group") ∷ grouped (codes "User") ∷ []) (link a p.above) p.listed) [
  | inl same ↦ absurd (contains_nothing b (subst (λ (ks : List (List ℕ)). Contains ks b) (sym (ap (λ (l : Link). l.1) same)) p.parent))
  | inr rest ↦ elim (contains_split (grouped (codes "Group")) (grouped (codes "User") ∷ []) (link a p.above) rest) [
    | inl same ↦ in_group a b (codes "Group") p.above same refl p.parent
    | inr last ↦ in_group a b (codes "User") p.above (only (grouped (codes "User")) (link a p.above) last) refl p.parent
  ]
]

above_is : (a b : List ℕ) → IsAbove links a b → IsGroup a b
above_is a b (step _ _ p) = parent_is a b p
above_is a b (on _ c _ p r) = record { group = (above_is c b r).group; below = (parent_is a c p).below }

group_in : (name : List ℕ) → Contains links (grouped name) → IsAbove links name (codes "Group")
group_in name listed = step name (codes "Group") (record { above = codes "Group" ∷ []; listed = listed; parent = contains_first (codes "Group") [] })

groups_above : (name : List ℕ) → Contains links (grouped name) → AreAbove text_cmp links name (codes "Group" ∷ [])
groups_above name listed = record {
  ascending = one_sorted text_cmp (codes "Group");
  members = λ b. (λ has. subst (IsAbove links name) (only (codes "Group") b has) (group_in name listed), λ r. subst (Contains (codes "Group" ∷ [])) (sym (above_is name b r).group) (contains_first (codes "Group") []));
}

none_above : AreAbove text_cmp links (codes "Doc") []
none_above = record {
  ascending = none_sorted text_cmp;
  members = λ b. (λ has. absurd (contains_nothing b has), λ r. let no : true ≡ false = (above_is (codes "Doc") b r).below in absurd cc);
}

-- ---- entity types

abbrev types : List ExpandedEntityType
types = document_expanded ∷ group_expanded ∷ user_expanded ∷ []

document_of : IsEntityTypeOf (type_links types) document_expanded document
unfolding document document_expanded group_expanded user_expanded
document_of = record { name = refl; ancestors = none_above; shape = refl; tags = refl; choices = refl }

group_of : IsEntityTypeOf (type_links types) group_expanded group
unfolding group document_expanded group_expanded user_expanded
group_of = record { name = refl; ancestors = groups_above (codes "Group") (1, omega arith, refl); shape = refl; tags = refl; choices = refl }

user_of : IsEntityTypeOf (type_links types) user_expanded user
unfolding user document_expanded group_expanded user_expanded
user_of = record { name = refl; ancestors = groups_above (codes "User") (2, omega arith, refl); shape = refl; tags = refl; choices = refl }

-- what is made of a declaration, and of what one is made
record Makes (d : ExpandedEntityType) (t : EntityType) : Type 0 where
  declared : Contains types d
  listed : Contains (document ∷ group ∷ user ∷ []) t
  made : IsEntityTypeOf (type_links types) d t

first_pair : Makes document_expanded document
first_pair = record { declared = (0, omega arith, refl); listed = (0, omega arith, refl); made = document_of }

second_pair : Makes group_expanded group
second_pair = record { declared = (1, omega arith, refl); listed = (1, omega arith, refl); made = group_of }

third_pair : Makes user_expanded user
third_pair = record { declared = (2, omega arith, refl); listed = (2, omega arith, refl); made = user_of }

of_type : (t : EntityType) → Contains (document ∷ group ∷ user ∷ []) t → (d : ExpandedEntityType) × Makes d t
of_type t has = elim (contains_split document (group ∷ user ∷ []) t has) [
  | inl is ↦ (document_expanded, subst (Makes document_expanded) is first_pair)
  | inr rest ↦ elim (contains_split group (user ∷ []) t rest) [
    | inl is ↦ (group_expanded, subst (Makes group_expanded) is second_pair)
    | inr last ↦ (user_expanded, subst (Makes user_expanded) (only user t last) third_pair)
  ]
]

of_declaration : (d : ExpandedEntityType) → Contains types d → (t : EntityType) × Makes d t
of_declaration d has = elim (contains_split document_expanded (group_expanded ∷ user_expanded ∷ []) d has) [
  | inl is ↦ (document, subst (λ x. Makes x document) is first_pair)
  | inr rest ↦ elim (contains_split group_expanded (user_expanded ∷ []) d rest) [
    | inl is ↦ (group, subst (λ x. Makes x group) is second_pair)
    | inr last ↦ (user, subst (λ x. Makes x user) (only user_expanded d last) third_pair)
  ]
]

names_ascend : IsStrictlySortedBy text_cmp (codes "Doc" ∷ codes "Group" ∷ codes "User" ∷ [])
unfolding IsStrictlySortedBy
names_ascend = ((refl, (refl, tt)), ((refl, tt), (tt, tt)))

types_of : AreTypesOf types (document ∷ group ∷ user ∷ [])
unfolding document group user
types_of = record {
  ascending = names_ascend;
  each = λ t has. let found = of_type t has in (found.0, found.1.declared, found.1.made);
  all = λ d has. let found = of_declaration d has in (found.0, found.1.listed, found.1.made);
}

-- ---- actions

in_order : (name : List ℕ) → AreInOrder (name ∷ []) (name ∷ [])
in_order name = record { ascending = one_sorted text_cmp name; members = λ other. (λ has. has, λ has. has) }

viewing_above : AreAbove uid_cmp (alone ∷ []) view []
viewing_above = record { ascending = none_sorted uid_cmp; members = λ b. (λ has. absurd (contains_nothing b has), λ r. absurd (no_above view b r)) }

viewing_of : IsActionOf (action_links (viewing_expanded ∷ [])) viewing_expanded viewing
unfolding viewing viewing_expanded
viewing_of = record { uid = refl; ancestors = viewing_above; principals = in_order (codes "User"); resources = in_order (codes "Doc"); context = refl }

actions_of : AreActionsOf (viewing_expanded ∷ []) (viewing ∷ [])
actions_of = record {
  ascending = one_sorted uid_cmp viewing.uid;
  each = λ a has. (viewing_expanded, contains_first viewing_expanded [], subst (IsActionOf (action_links (viewing_expanded ∷ [])) viewing_expanded) (only viewing a has) viewing_of);
  all = λ d has. (viewing, contains_first viewing [], subst (λ (x : ExpandedAction). IsActionOf (action_links (viewing_expanded ∷ [])) x viewing) (only viewing_expanded d has) viewing_of);
}

-- ---- the schema

schema_of_types : IsSchemaOf steps.expanded declared
unfolding steps.expanded declared
schema_of_types = record { types = types_of; actions = actions_of }

few : length (environments declared) ≤ max_environments
unfolding declared viewing
few = omega arith

pub schema_spelled : Spells schema_text declared
schema_spelled = record {
  resolved = resolved_schema;
  declares = record { written = schema_of tree; form = written; names = names_known };
  describes = record {
    means = record {
      acyclic = record { types = record { order = []; ordered = no_types }; actions = no_cycle };
      expanded = steps.expanded;
      types = is_expansion;
      schema = schema_of_types;
    };
    few = few;
  };
}
