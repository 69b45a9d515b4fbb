-- What goes with the ancestors of an entity and those so far, by numbers of a table. No public promise speaks of it.
use Rattle.std.specs.Prelude.{◌≡◌, ◌==◌, Bool, true, false, List, [], ◌∷◌, ◌++◌, flat_map, length, Option, Some, None, unwrap_or}
use Rattle.std.specs.Bool.{then_some}
use Rattle.sc_sorts.specs.declared.sort.Sort.{Sort}
use Rattle.sc_sorts.specs.declared.sort.Sort.TheVariants as sort
use Rattle.sc_sorts.specs.declared.node.Node.{Node}
use Rattle.sc_sorts.specs.declared.node.UnaryOp.TheVariants as unary
use Rattle.sc_terms.specs.Trees.{Tree, one}
use Rattle.sc_terms.specs.Tables.{tree}
use Rattle.sc_rule_laws.specs.Terms.{member, choices_in}
use Rattle.sc_closure_rules.specs.Making.{stood}
use Rattle.sc_closure_rules.specs.Closure.{memberships, members_by, is_under, ancestors_of, ancestors_up}
use Rattle.sc_candidates.specs.declared.crowds.Crowd.{Crowd}

-- a term is the ancestors of an entity
pub record IsAbove (x : Tree) : Type 0 where
  pub own : Sort
  pub entity : Tree
  pub is : x ≡ ancestors_of own entity

-- whether it is
abbrev pub is_above : Tree → Bool
is_above (one (unary.Ancestors own) e) = true
is_above _ = false

-- ---- what goes with them

-- a candidate x of a set s, where that is the ancestors of an entity that may be among these
abbrev pub up_of : Tree → Tree → Tree → List Tree
up_of x s (one (unary.Ancestors own) e) = ancestors_up x s own e
up_of x s _ = []

-- the entity of the second ancestors, where it may be among the first
abbrev pub entity_of : Tree → Tree → List Tree
entity_of (one (unary.Ancestors own) e) (one (unary.Ancestors k) f) = members_by (is_under f own) f (ancestors_of own e)
entity_of _ _ = []

abbrev pub both_told : Tree → Tree → List Tree
both_told a b = entity_of a b ++ entity_of b a

abbrev pub ups_of : List Node → Tree → Crowd → List Tree
ups_of xs a c = flat_map (λ x. up_of x (tree xs c.set) a) (stood xs c.members)

-- the entities that may be among new ones, and among whose the entity may be, and the ancestors of such entities
abbrev pub entity_told : List Node → List Crowd → List Tree → Tree → List Tree
entity_told xs crowds above a = flat_map (both_told a) above ++ flat_map (ups_of xs a) crowds

-- ---- the same step by step

-- the entity whose ancestors a term is, and their sort
abbrev pub entity_in : Tree → Option Tree
entity_in (one (unary.Ancestors own) e) = Some e
entity_in _ = None

abbrev pub own_in : Tree → Option Sort
own_in (one (unary.Ancestors own) e) = Some own
own_in _ = None

abbrev pub own_of : Tree → Sort
own_of x = unwrap_or (own_in x) sort.Bool

-- whether an entity may be among these ancestors
abbrev pub is_of : Option Sort → Tree → Bool
is_of (Some own) f = is_under f own
is_of None f = false

abbrev pub may_hold : Tree → Tree → Bool
may_hold a f = is_of (own_in a) f

-- the entity of other ancestors, if it may be among these
abbrev pub held_by : Tree → Option Tree → Option Tree
held_by a (Some f) = then_some (may_hold a f) f
held_by a None = None

abbrev pub held_entity : Tree → Tree → Option Tree
held_entity a b = held_by a (entity_in b)

abbrev pub held_told : Tree → Option Tree → List Tree
held_told a (Some f) = member f a ∷ []
held_told a None = []

-- an entity of a sort that lists none
abbrev pub unlisted : Option Tree → Option Tree
unlisted (Some e) = then_some (length (choices_in e) == 0) e
unlisted None = None

-- the entity of ancestors to which those of an entity go up, which may be among them
abbrev pub if_held : Option Tree → Option Tree → Option Tree
if_held (Some f) o = o
if_held None o = None

abbrev pub up_entity : Tree → Tree → Option Tree
up_entity s a = if_held (held_entity a s) (unlisted (entity_in a))

abbrev pub up_told : List Tree → Tree → Option Tree → List Tree
up_told ts s (Some e) = memberships ts (ancestors_of (own_of s) e)
up_told ts s None = []
