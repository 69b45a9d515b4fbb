-- For private clauses: the parts of a well-formed world as they are tested, and the least of some uids that isn't
-- stored.
use Rattle.std.specs.Prelude.{◌≡◌, ℕ, List, [], ◌∷◌, Option, Some, None, is_some, if◌then◌else◌, Contains, IsTrue, IfSome}
use Rattle.std.specs.List.{AllByRecursion}
use Rattle.std.specs.Ordering.{match_ordering}
use Rattle.sc_names.specs.declared.uid.Uid.{Uid}
use Rattle.sc_names.specs.Uids.{uid_cmp}
use Rattle.sc_schema.specs.declared.declarations.Action.{Action}
use Rattle.sc_schema.specs.declared.declarations.Env.{Env}
use Rattle.sc_schema.specs.declared.ty.Ty.{Ty}
use Rattle.sc_schema.specs.Declarations.{Declarations}
use Rattle.sc_values.specs.declared.value.Value.{Value}
use Rattle.sc_world.specs.Conforms.{conforms}
use Rattle.sc_world.specs.declared.entity.EntityData.{EntityData}
use Rattle.sc_world.specs.declared.world.Request.{Request}
use Rattle.sc_world.specs.declared.world.World.{World}
use Rattle.sc_world.specs.Stores.{Entities, stored, IsMap}
use Rattle.sc_world.specs.Least.{wanted}
use Rattle.sc_world.specs.Sound.{AreSound}
use Rattle.sc_world.specs.WellFormed.{Entry, action_data, IsProperRequest, IsStored, IsRequestOf}

-- a fact of an element of a list, which proofs of tests over the list need not look into
unfoldable pub Holds : {X : Type 0} → (X → Type 0) → X → Type 0
Holds P x = P x

-- an environment has the request's types and its action
pub record IsEnvironmentOf (r : Request) (env : Env) : Type 0 where
  pub principal : r.principal.type_name ≡ env.principal
  pub action : r.action ≡ env.action
  pub resource : r.resource.type_name ≡ env.resource

-- each entity that a world has to store is stored
abbrev pub StoresWanted : Declarations → List Uid → World → Type 0
StoresWanted s literals w = AllByRecursion (IsStored w.store) (wanted s literals w)

-- a well-formed world, by its request, its entities one by one, and all that has to be stored
pub record HasWellFormedParts (s : Declarations) (env : Env) (literals : List Uid) (w : World) : Type 0 where
  pub proper : IsProperRequest w.request
  pub request : IsRequestOf s env w.request
  pub store : IsMap w.store
  pub sound : AreSound s w.store
  pub stored : StoresWanted s literals w

-- the ancestors of an entity that is stored are among these
abbrev pub HasAncestorsAmong : Entities → List Uid → Uid → Type 0
HasAncestorsAmong es uids u = IfSome (stored u es) (λ e. AllByRecursion (λ a. Contains uids a) e.ancestors)

-- what is stored of an entity is what a declared action stores
abbrev pub IsStoredAction : Declarations → Entry → Type 0
IsStoredAction s x = (a : Action) × Contains s.actions a × (x ≡ (a.uid, action_data a))

-- what is stored of an action with these ancestors
abbrev pub HasActionData : List Uid → EntityData → Type 0
HasActionData ancestors e = (e.attrs ≡ []) × (e.ancestors ≡ ancestors) × (e.tags ≡ [])

-- a tag's value is of a type
abbrev pub IsTagOf : Ty → List ℕ × Value → Type 0
IsTagOf t tag = IsTrue (conforms t tag.1)

-- a uid is of one of these types
abbrev pub HasTypeAmong : List (List ℕ) → Uid → Type 0
HasTypeAmong types u = Contains types u.type_name

-- the lesser of two uids, of which the first may be absent
abbrev pub lesser_of : Option Uid → Uid → Option Uid
lesser_of None u = Some u
lesser_of (Some v) u = Some (match_ordering (uid_cmp u v) u v v)

-- the lesser of two uids, the second of which counts only if it isn't stored
unfoldable pub lesser : Entities → Option Uid → Uid → Option Uid
lesser es least u = if is_some (stored u es) then least else lesser_of least u

-- the least of these uids that isn't stored, and of one more, if there is one
unfoldable pub least_missing : Entities → Option Uid → List Uid → Option Uid
least_missing es least [] = least
least_missing es least (u ∷ us) = least_missing es (lesser es least u) us
