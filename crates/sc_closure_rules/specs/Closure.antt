-- The closed terms of a goal: those on which a world depends that may make it true.
use Rattle.std.specs.Prelude.{◌==◌, ◌&&◌, ℕ, Bool, true, false, List, [], ◌∷◌, ◌++◌, map, flat_map, length, Option, Some, None, unwrap_or}
use Rattle.std.specs.List.{Contains}
use Rattle.sc_names.specs.declared.uid.Uid.{Uid}
use Rattle.sc_pattern.specs.declared.part.Part.{Part}
use Rattle.sc_schema.specs.declared.declarations.Env.{Env}
use Rattle.sc_schema.specs.Declarations.{Declarations, ancestor_types, action_ancestors}
use Rattle.sc_sorts.specs.declared.sort.Sort.{Sort, Sort-F, out-Sort}
use Rattle.sc_sorts.specs.declared.sort.Sort.TheOpen as s
use Rattle.sc_sorts.specs.contracts.sort.SortPartialEq.TheImpl.{ghosts as sorts}
use Rattle.sc_sorts.specs.Entities.{entity_sort, of_type_name}
use Rattle.sc_sorts.specs.declared.node.Leaf.TheVariants.{Principal, Resource}
use Rattle.sc_sorts.specs.declared.node.Literal.TheVariants as literal
use Rattle.sc_sorts.specs.declared.node.UnaryOp.TheVariants as unary
use Rattle.sc_sorts.specs.declared.node.BinaryOp.TheVariants as binary
use Rattle.sc_terms.specs.Trees.{Tree, leaf, one, two, choice, many, Trees, no_part, part}
use Rattle.sc_terms.specs.TreeSorts.{tree_sort}
use Rattle.sc_terms.specs.Order.{tree_eq}
use Rattle.sc_terms.specs.Folds.{truth_term, literal_term, literal_of, equal_term, field_term, present_term, held_term, default_term, bit_term, like_term}
use Rattle.sc_term_definitions.specs.Definitions.{counted, bits_in, inputs_of}
use Rattle.sc_rule_laws.specs.Terms.{one_sort, choices_in, member, missing, shared, written}
use Rattle.sc_rule_laws.specs.Places.{roots}

-- ---- the request's entities

abbrev pub principal_term : Declarations → Env → Tree
principal_term d env = leaf (Principal (entity_sort d env.principal))

abbrev pub resource_term : Declarations → Env → Tree
resource_term d env = leaf (Resource (entity_sort d env.resource))

-- ---- the terms that go with a term

abbrev pub trees_in : Trees → List Tree
trees_in no_part = []
trees_in (part l t ts) = t ∷ trees_in ts

-- its parts
abbrev pub parts : Tree → List Tree
parts (leaf l) = []
parts (one o a) = a ∷ []
parts (two o a b) = a ∷ b ∷ []
parts (choice c a b) = c ∷ a ∷ b ∷ []
parts (many o ts) = trees_in ts

abbrev pub field_terms : List (List ℕ × Sort) → Tree → List Tree
field_terms fields x = map (λ (f : List ℕ × Sort). field_term f.0 x) fields

abbrev pub bit_terms : ℕ → Tree → List Tree
bit_terms n x = map (bit_term x) (counted 0 n)

-- what tells its value, by its sort: of a record the fields, of an option whether it holds a value, what it holds,
-- and whether that is the default, of a number or an address the bits
abbrev pub inside_by : Sort-F Sort → Tree → List Tree
inside_by (s.Record fields) x = field_terms fields x
inside_by (s.Option held) x = present_term x ∷ held_term x ∷ equal_term (held_term x) (default_term held) ∷ []
inside_by k x = bit_terms (bits_in k) x

abbrev pub inside : Tree → List Tree
inside x = inside_by (out-Sort (tree_sort x)) x

-- an entity, beside those that its sort lists
abbrev pub uid_term : List Uid → Uid → Tree
uid_term us u = literal_term (literal.Entity u us)

-- the entities that it may be, where its sort lists them and it isn't written: declared actions, or choices
abbrev pub choices_by : Sort-F Sort → List Tree
choices_by (s.Entity name us) = map (uid_term us) us
choices_by _ = []

abbrev pub unless_literal : {X : Type 0} → Option X → List Tree → List Tree
unless_literal (Some l) ts = []
unless_literal None ts = ts

abbrev pub choices : Tree → List Tree
choices x = unless_literal (literal_of x) (choices_by (out-Sort (tree_sort x)))

-- of a choice that is no truth value whether it is the one or the other
abbrev pub branches : Sort-F Sort → Tree → Tree → Tree → List Tree
branches s.Bool x a b = []
branches _ x a b = equal_term x a ∷ equal_term x b ∷ []

-- of an equation of records those of their fields, of options that of what they hold, of sets whether each is within
-- the other. What has bits is equal by its definition.
abbrev pub equations : Sort-F Sort → Tree → Tree → List Tree
equations (s.Record fields) a b = map (λ (f : List ℕ × Sort). equal_term (field_term f.0 a) (field_term f.0 b)) fields
equations (s.Option held) a b = equal_term (held_term a) (held_term b) ∷ []
equations (s.Set member) a b = two binary.Subset a b ∷ two binary.Subset b a ∷ []
equations _ a b = []

abbrev pub ancestors_of : Sort → Tree → Tree
ancestors_of own e = one (unary.Ancestors own) e

-- an action's ancestors of a sort's type, as members of its ancestors
abbrev pub declared_members : Declarations → Sort-F Sort → Sort → Tree → Uid → List Tree
declared_members d (s.Entity name us) own a u =
    map (λ (v : Uid). two binary.Member (uid_term us v) (ancestors_of own a))
    (of_type_name name (unwrap_or (action_ancestors d u) []))
declared_members d _ own a u = []

-- of an action's ancestors of a type those of each declared action, with its declared ones as members
abbrev pub declared_ancestors : Declarations → Sort → List Uid → List Tree
declared_ancestors d own us =
    flat_map
    (λ (u : Uid). ancestors_of own (uid_term us u) ∷ declared_members d (out-Sort own) own (uid_term us u) u)
    us

-- of an entity's ancestors of a type those of each ancestor type
abbrev pub ancestors_by : Declarations → Sort-F Sort → Sort → Tree → List Tree
ancestors_by d (s.Entity name us) own e =
    map (λ (n : List ℕ). ancestors_of (entity_sort d n) e) (unwrap_or (ancestor_types d name) [])
    ++ declared_ancestors d own us
ancestors_by d _ own e = []

-- A set is told by its candidates, the terms whose membership in it is closed. Of one that is written as a set term
-- those that stand there tell what is asked of it.
abbrev pub memberships : List Tree → Tree → List Tree
memberships ts s = map (λ t. member t s) ts

-- of a membership in a set term the equations with those that stand there
abbrev pub standing_by : Option (List Tree) → Tree → List Tree
standing_by (Some ts) x = map (equal_term x) ts
standing_by None x = []

-- of a member that is picked whether it is one of each of two sets
abbrev pub picked : Tree → Tree → Tree → List Tree
picked x s t = x ∷ member x s ∷ member x t ∷ []

-- of whether a set is within another: the members of a set term, or one that tells that it isn't
abbrev pub within_by : Option (List Tree) → Tree → Tree → List Tree
within_by (Some ts) s t = memberships ts t
within_by None s t = picked (missing s t) s t

-- of whether sets have a member in common: the members of a set term, of the first if both are, or one that tells it
abbrev pub common_by : Option (List Tree) → Option (List Tree) → Tree → Tree → List Tree
common_by (Some ts) o s t = memberships ts t
common_by None (Some ts) s t = memberships ts s
common_by None None s t = picked (shared s t) s t

-- what goes with it by its row
abbrev pub beside : Declarations → Tree → List Tree
beside d (choice c a b) = branches (out-Sort (tree_sort a)) (choice c a b) a b
beside d (one (unary.Ancestors own) e) = ancestors_by d (out-Sort (tree_sort e)) own e
beside d (two binary.Equal a b) = equations (out-Sort (tree_sort a)) a b
beside d (two (binary.Tag own) e k) =
    one unary.Keys e ∷ two binary.Member k (one unary.Keys e)
    ∷ equal_term (two (binary.Tag own) e k) (default_term own) ∷ []
beside d (two binary.Member x s) = standing_by (written s) x
beside d (two binary.Subset s t) = within_by (written s) s t
beside d (two binary.Common s t) = common_by (written s) (written t) s t
beside d _ = []

-- all of them, in the order in which they are numbered: the inputs of its definition first, and its parts last
unfoldable pub follow : Declarations → Tree → List Tree
follow d x = inputs_of x ++ (inside x ++ (choices x ++ (beside d x ++ parts x)))

-- ---- the terms that go with two

-- what a closed term is to those rules
pub data Role : Type 0 where
  -- a text or an entity
  named : Tree → Role
  -- a candidate of a set that is no set term
  candidate : Tree → Tree → Role
  set : Tree → Role
  -- each candidate of the first set is one of the second
  flow : Tree → Tree → Role
  -- the ancestors, of a sort, of an entity
  above : Sort → Tree → Role
  pattern : List Part → Role

-- by its sort: texts and entities, which are told apart by their names, and sets
abbrev pub roles_by : Sort-F Sort → Tree → List Role
roles_by s.String x = named x ∷ []
roles_by (s.Entity name us) x = named x ∷ []
roles_by (s.Set member) x = set x ∷ []
roles_by _ x = []

abbrev pub unless_written : Option (List Tree) → Role → List Role
unless_written (Some ts) r = []
unless_written None r = r ∷ []

-- By its row. Where a set is asked whether it is within another, or has a member in common with it, its candidates are
-- the other's. No rule brings in a pattern, so patterns are the goal's.
abbrev pub roles_in : Tree → List Role
roles_in (two binary.Member x s) = unless_written (written s) (candidate x s)
roles_in (two binary.Subset s t) = unless_written (written s) (flow s t)
roles_in (two binary.Common s t) = flat_map (λ r. unless_written (written t) r) (unless_written (written s) (flow s t))
roles_in (one (unary.Ancestors own) e) = above own e ∷ []
roles_in (one (unary.Like p) t) = pattern p ∷ []
roles_in _ = []

abbrev pub roles : Tree → List Role
roles x = roles_by (out-Sort (tree_sort x)) x ++ roles_in x

-- where a test passes, the equation of two terms, and whether one is a member of the other
abbrev pub equated_by : Bool → Tree → Tree → List Tree
equated_by true x y = equal_term x y ∷ []
equated_by false x y = []

abbrev pub members_by : Bool → Tree → Tree → List Tree
members_by true x s = member x s ∷ []
members_by false x s = []

-- a text and a pattern: whether it matches
abbrev pub matches_by : Sort-F Sort → Tree → List Part → List Tree
matches_by s.String x p = like_term x p ∷ []
matches_by _ x p = []

abbrev pub with_named : Tree → Role → List Tree
with_named x (named y) = equated_by (one_sort x y) x y
with_named x (pattern p) = matches_by (out-Sort (tree_sort x)) x p
with_named x _ = []

-- Sets that are one where their entities are, and keys of tags: the ancestors of one type, the keys, and like places of
-- the attributes, or of tags, each of two entities of one type
abbrev pub own_sets : Tree → Tree → Bool
own_sets (one (unary.Attributes k) e) (one (unary.Attributes l) f) = one_sort e f
own_sets (two (binary.Tag k) e x) (two (binary.Tag l) f y) = one_sort e f
own_sets (one (unary.Ancestors k) e) (one (unary.Ancestors l) f) = one_sort e f
own_sets (one unary.Keys e) (one unary.Keys f) = one_sort e f
own_sets _ _ = false

abbrev pub are_linked : Tree → Tree → Bool
are_linked s t = one_sort s t && own_sets (roots s t).0 (roots s t).1

-- an entity is of the type of another's ancestors
abbrev pub is_under : Tree → Sort → Bool
is_under f own = sorts.eq (tree_sort f) own

-- An ancestor of an entity's ancestor is one of the entity's, of whichever type. Actions have their declared ones.
abbrev pub ancestors_up : Tree → Tree → Sort → Tree → List Tree
ancestors_up x (one (unary.Ancestors k) f) own e =
    members_by (is_under f own && (length (choices_in e) == 0)) x (ancestors_of k e)
ancestors_up x _ own e = []

abbrev pub with_candidate : Tree → Tree → Role → List Tree
with_candidate x s (candidate y t) = equated_by (tree_eq s t) x y
with_candidate x s (set t) = members_by (are_linked s t) x t
with_candidate x s (flow t u) = members_by (tree_eq s t) x u
with_candidate x s (above own e) = ancestors_up x s own e
with_candidate x s _ = []

abbrev pub with_above : Sort → Tree → Role → List Tree
with_above own e (above k f) = members_by (is_under f own) f (ancestors_of own e)
with_above own e _ = []

-- what goes with a role and another
abbrev pub meet : Role → Role → List Tree
meet (named x) r = with_named x r
meet (candidate x s) r = with_candidate x s r
meet (above own e) r = with_above own e r
meet _ r = []

-- one half of what goes with two terms; the other exchanges them
abbrev pub half : Tree → Tree → List Tree
half x y = flat_map (λ p. flat_map (meet p) (roles y)) (roles x)

abbrev pub follow_pair : Tree → Tree → List Tree
follow_pair x y = half x y ++ half y x

-- ---- the least set that holds `true`, the goal, the principal and the resource, with a term those that go with it,
-- and with two those that go with both

pub data Closed (d : Declarations) (env : Env) (goal : Tree) : Tree → Type 0 where
  of_true : Closed d env goal (truth_term true)
  of_goal : Closed d env goal goal
  of_principal : Closed d env goal (principal_term d env)
  of_resource : Closed d env goal (resource_term d env)
  next : (x y : Tree) → Closed d env goal x → Contains (follow d x) y → Closed d env goal y
  pair : (x y z : Tree) → Closed d env goal x → Closed d env goal y → Contains (follow_pair x y) z → Closed d env goal z
