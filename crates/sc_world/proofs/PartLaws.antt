-- A well-formed world by what it asks of its request, of each stored entity, and of what it has to store.
use Rattle.std.proofs.Common.{◌↔◌, List, [], ◌∷◌, ◌++◌, map, Bool, IsTrue}
use Rattle.std.specs.Prelude.{flat_map}
use Rattle.std.specs.List.{AllByRecursion}
use Rattle.sc_lists.proofs.ListLaws.{all_weaker, all_append}
use Rattle.sc_names.specs.declared.uid.Uid.{Uid}
use Rattle.sc_schema.specs.declared.declarations.Action.{Action}
use Rattle.sc_schema.specs.declared.declarations.Env.{Env}
use Rattle.sc_schema.specs.Declarations.{Declarations, action_uids}
use Rattle.sc_values.specs.declared.value.Value.TheVariants.{Record}
use Rattle.sc_world.specs.declared.world.World.{World}
use Rattle.sc_world.specs.Named.{uids_in, uids_in_entry, request_uids}
use Rattle.sc_world.specs.Sound.{IsSoundEntry}
use Rattle.sc_world.specs.Stores.{Entities}
use Rattle.sc_world.specs.WellFormed.{Entry, HasAttributes, HasTags, HasAncestorTypes, IsTransitive, IsAcyclic, IsAction, HasChoices, EntryNamesStored, IsProperEntry, IsStored, IsWellFormed}
use Rattle.sc_world.specs.Tests.{HasWellFormedParts}
use Rattle.sc_world.proofs.UidsLaws.{all-left, all-right, names_agree}

abbrev AllStored : Entities → List Uid → Type 0
AllStored es us = AllByRecursion (IsStored es) us

-- the uids that an entity names are stored
entry_named : (es : Entities) (x : Entry) → EntryNamesStored es x → AllStored es (uids_in_entry x)
entry_named es x h =
    all_append (IsStored es) (uids_in (Record x.1.attrs)) (uids_in (Record x.1.tags) ++ x.1.ancestors) ((names_agree es (Record x.1.attrs)).0 h.attrs)
    (all_append (IsStored es) (uids_in (Record x.1.tags)) x.1.ancestors ((names_agree es (Record x.1.tags)).0 h.tags) h.ancestors)

named_entry : (es : Entities) (x : Entry) → AllStored es (uids_in_entry x) → EntryNamesStored es x
named_entry es x h =
    let attrs = uids_in (Record x.1.attrs) in
    let tags = uids_in (Record x.1.tags) in
    let later = all-right (IsStored es) attrs (tags ++ x.1.ancestors) h in
    record {
      attrs = (names_agree es (Record x.1.attrs)).1 (all-left (IsStored es) attrs (tags ++ x.1.ancestors) h);
      tags = (names_agree es (Record x.1.tags)).1 (all-left (IsStored es) tags x.1.ancestors later);
      ancestors = all-right (IsStored es) tags x.1.ancestors later;
    }

entries_named : (es xs : Entities) → AllByRecursion (EntryNamesStored es) xs → AllStored es (flat_map uids_in_entry xs)
entries_named es [] h = tt
entries_named es (x ∷ xs) h = all_append (IsStored es) (uids_in_entry x) (flat_map uids_in_entry xs) (entry_named es x h.0) (entries_named es xs h.1)

named_entries : (es xs : Entities) → AllStored es (flat_map uids_in_entry xs) → AllByRecursion (EntryNamesStored es) xs
named_entries es [] h = tt
named_entries es (x ∷ xs) h = (
  named_entry es x (all-left (IsStored es) (uids_in_entry x) (flat_map uids_in_entry xs) h),
  named_entries es xs (all-right (IsStored es) (uids_in_entry x) (flat_map uids_in_entry xs) h),
)

actions_named : (es : Entities) (actions : List Action) → AllByRecursion (λ (a : Action). IsStored es a.uid) actions → AllStored es (map (λ (a : Action). a.uid) actions)
actions_named es [] h = tt
actions_named es (a ∷ actions) h = (h.0, actions_named es actions h.1)

named_actions : (es : Entities) (actions : List Action) → AllStored es (map (λ (a : Action). a.uid) actions) → AllByRecursion (λ (a : Action). IsStored es a.uid) actions
named_actions es [] h = tt
named_actions es (a ∷ actions) h = (h.0, named_actions es actions h.1)

-- what a well-formed world asks of its entities, whatever they name
record HasSoundness (s : Declarations) (es xs : Entities) : Type 0 where
  proper : AllByRecursion IsProperEntry xs
  attributes : AllByRecursion (HasAttributes s) xs
  tags : AllByRecursion (HasTags s) xs
  ancestor_types : AllByRecursion (HasAncestorTypes s) xs
  transitive : AllByRecursion (IsTransitive es) xs
  acyclic : AllByRecursion IsAcyclic xs
  actions : AllByRecursion (IsAction s) xs
  choices : AllByRecursion (HasChoices s) xs

by_entries : (s : Declarations) (es xs : Entities) → HasSoundness s es xs → AllByRecursion (IsSoundEntry s es) xs
by_entries s es [] h = tt
by_entries s es (x ∷ xs) h = (
  record {
    proper = h.proper.0;
    attributes = h.attributes.0;
    tags = h.tags.0;
    ancestor_types = h.ancestor_types.0;
    transitive = h.transitive.0;
    acyclic = h.acyclic.0;
    action = h.actions.0;
    choices = h.choices.0;
  },
  by_entries s es xs (record {
    proper = h.proper.1;
    attributes = h.attributes.1;
    tags = h.tags.1;
    ancestor_types = h.ancestor_types.1;
    transitive = h.transitive.1;
    acyclic = h.acyclic.1;
    actions = h.actions.1;
    choices = h.choices.1;
  }),
)

parts-well_formed : (s : Declarations) (env : Env) (literals : List Uid) (w : World) → HasWellFormedParts s env literals w → IsWellFormed s env literals w
parts-well_formed s env literals w h =
    let es = w.store in
    let in_request = request_uids w.request in
    let in_entries = flat_map uids_in_entry es in
    let here = all-left (IsStored es) in_request (in_entries ++ (literals ++ action_uids s)) h.stored in
    let later = all-right (IsStored es) in_request (in_entries ++ (literals ++ action_uids s)) h.stored in
    let last = all-right (IsStored es) in_entries (literals ++ action_uids s) later in
    record {
      proper = record {
        principal = h.proper.principal;
        action = h.proper.action;
        resource = h.proper.resource;
        context = h.proper.context;
        store = h.store;
        entries = all_weaker (IsSoundEntry s es) IsProperEntry (λ x e. e.proper) es h.sound;
      };
      request = h.request;
      attributes = all_weaker (IsSoundEntry s es) (HasAttributes s) (λ x e. e.attributes) es h.sound;
      tags = all_weaker (IsSoundEntry s es) (HasTags s) (λ x e. e.tags) es h.sound;
      ancestor_types = all_weaker (IsSoundEntry s es) (HasAncestorTypes s) (λ x e. e.ancestor_types) es h.sound;
      transitive = all_weaker (IsSoundEntry s es) (IsTransitive es) (λ x e. e.transitive) es h.sound;
      acyclic = all_weaker (IsSoundEntry s es) IsAcyclic (λ x e. e.acyclic) es h.sound;
      actions = all_weaker (IsSoundEntry s es) (IsAction s) (λ x e. e.action) es h.sound;
      choices = all_weaker (IsSoundEntry s es) (HasChoices s) (λ x e. e.choices) es h.sound;
      declared_actions = named_actions es s.actions (all-right (IsStored es) literals (action_uids s) last);
      closed = record {
        principal = here.0;
        action = here.1.0;
        resource = here.1.1.0;
        context = (names_agree es (Record w.request.context)).1 here.1.1.1;
        entries = named_entries es es (all-left (IsStored es) in_entries (literals ++ action_uids s) later);
        written = all-left (IsStored es) literals (action_uids s) last;
      };
    }

well_formed-parts : (s : Declarations) (env : Env) (literals : List Uid) (w : World) → IsWellFormed s env literals w → HasWellFormedParts s env literals w
well_formed-parts s env literals w h =
    let es = w.store in
    let request : AllStored es (request_uids w.request) = (h.closed.principal, (h.closed.action, (h.closed.resource, (names_agree es (Record w.request.context)).0 h.closed.context))) in
    record {
      proper = record { principal = h.proper.principal; action = h.proper.action; resource = h.proper.resource; context = h.proper.context };
      request = h.request;
      store = h.proper.store;
      sound = by_entries s es es (record {
        proper = h.proper.entries;
        attributes = h.attributes;
        tags = h.tags;
        ancestor_types = h.ancestor_types;
        transitive = h.transitive;
        acyclic = h.acyclic;
        actions = h.actions;
        choices = h.choices;
      });
      stored = all_append (IsStored es) (request_uids w.request) (flat_map uids_in_entry es ++ (literals ++ action_uids s)) request
          (all_append (IsStored es) (flat_map uids_in_entry es) (literals ++ action_uids s) (entries_named es es h.closed.entries)
          (all_append (IsStored es) literals (action_uids s) h.closed.written (actions_named es s.actions h.declared_actions)));
    }

-- a world is well-formed exactly where it has the parts
pub by_parts : (s : Declarations) (env : Env) (literals : List Uid) (w : World) → HasWellFormedParts s env literals w ↔ IsWellFormed s env literals w
by_parts s env literals w = (parts-well_formed s env literals w, well_formed-parts s env literals w)

-- a test of the parts is one of the world
pub parts_tested : (s : Declarations) (env : Env) (literals : List Uid) (w : World) (b : Bool) → (IsTrue b ↔ HasWellFormedParts s env literals w) → IsTrue b ↔ IsWellFormed s env literals w
parts_tested s env literals w b test = (
  λ h. parts-well_formed s env literals w (test.0 h),
  λ h. test.1 (well_formed-parts s env literals w h),
)
