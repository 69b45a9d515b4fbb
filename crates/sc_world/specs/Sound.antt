-- What a well-formed world asks of each stored entity, whatever the entity names.
use Rattle.std.specs.List.{AllByRecursion}
use Rattle.sc_schema.specs.Declarations.{Declarations}
use Rattle.sc_world.specs.Stores.{Entities}
use Rattle.sc_world.specs.WellFormed.{Entry, IsProperEntry, HasAttributes, HasTags, HasAncestorTypes, IsTransitive, IsAcyclic, IsAction, HasChoices}

-- what is stored of an entity is as its type, its ancestors and its kind have it
pub record IsSoundEntry (s : Declarations) (es : Entities) (x : Entry) : Type 0 where
  pub proper : IsProperEntry x
  pub attributes : HasAttributes s x
  pub tags : HasTags s x
  pub ancestor_types : HasAncestorTypes s x
  pub transitive : IsTransitive es x
  pub acyclic : IsAcyclic x
  pub action : IsAction s x
  pub choices : HasChoices s x

-- each stored entity is so
abbrev pub AreSound : Declarations → Entities → Type 0
AreSound s es = AllByRecursion (IsSoundEntry s es) es
