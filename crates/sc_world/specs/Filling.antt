-- For private clauses: a store as it is filled from a list of uids that grows.
use Rattle.std.specs.Prelude.{◌++◌, ◌<◌, ℕ, List, flat_map, Contains, get_or}
use Rattle.std.specs.List.{AllByRecursion}
use Rattle.sc_names.specs.declared.uid.Uid.{Uid}
use Rattle.sc_schema.specs.Declarations.{Declarations, action_uids}
use Rattle.sc_values.specs.Proper.{IsUidText}
use Rattle.sc_world.specs.declared.world.Request.{Request}
use Rattle.sc_world.specs.Defaults.{default_data}
use Rattle.sc_world.specs.Given.{AreAsGiven, IsNamedWith}
use Rattle.sc_world.specs.Named.{request_uids, uids_in_data, uids_in_entry}
use Rattle.sc_world.specs.Stores.{Entities, with_entity}
use Rattle.sc_world.specs.WellFormed.{Entry, IsStored}

-- what has to be stored from the first: the declared actions, what the request names, what policies write, and what the
-- given entities name
abbrev pub first_uids : Declarations → Entities → Request → List Uid → List Uid
first_uids s given r literals = action_uids s ++ (request_uids r ++ (literals ++ flat_map uids_in_entry given))

-- the uids of stored entities are texts
abbrev pub HaveTexts : Entities → Type 0
HaveTexts es = AllByRecursion (λ (x : Entry). IsUidText x.0) es

-- what one entity of the list changes: nothing where it is stored, and else it is stored as it is by default, and
-- what it names then is put at the list's end
pub data IsStep (s : Declarations) (uids : List Uid) (es : Entities) (u : Uid) : List Uid → Entities → Type 0 where
  known : IsStored es u → IsStep s uids es u uids es
  added : ¬ IsStored es u → IsUidText u
      → IsStep s uids es u (uids ++ uids_in_data (default_data s u)) (with_entity u (default_data s u) es)

-- what is given is stored, and so are the first entities of the list, each as it is by default where it isn't given;
-- what the stored ones name stands in the list, and only what is named is in either
pub record IsFilled (s : Declarations) (given : Entities) (r : Request) (literals uids : List Uid) (done : ℕ)
    (es : Entities) : Type 0 where
  pub begins : AllByRecursion (Contains uids) (first_uids s given r literals)
  pub kept : AllByRecursion (λ (x : Entry). IsStored es x.0) given
  pub listed : AllByRecursion (IsNamedWith s given r literals) uids
  pub named : AllByRecursion (λ (x : Entry). IsNamedWith s given r literals x.0) es
  pub texts : HaveTexts given → HaveTexts es
  pub as_given : AreAsGiven s given es
  pub so_far : (k : ℕ) (d : Uid) → k < done → IsStored es (get_or uids k d)
  pub closed : AllByRecursion (λ (x : Entry). AllByRecursion (Contains uids) (uids_in_entry x)) es
