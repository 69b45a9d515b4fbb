-- What is read from entities and records.
use Rattle.std.specs.Prelude.{ℕ, List, [], ◌∷◌, Bool, true, false, ◌||◌, is_some, if◌then◌else◌, Option, Some, None, Result, Ok, Err}
use Rattle.std.specs.List.{list_any}
use Rattle.std.specs.Ordering.{is_eq}
use Rattle.std.specs.Str.{bytes_eq}
use Rattle.sc_names.specs.declared.uid.Uid.{Uid}
use Rattle.sc_names.specs.Uids.{uid_cmp}
use Rattle.sc_eval.specs.declared.error.EvalError.{EvalError}
use Rattle.sc_eval.specs.declared.error.EvalError.TheVariants.{TypeError, EntityMissing, AttrMissing, TagMissing}
use Rattle.sc_values.specs.declared.value.Value.{Value, Value-F, out-Value}
use Rattle.sc_values.specs.declared.value.Value.TheOpen as v
use Rattle.sc_values.specs.Records.{field}
use Rattle.sc_world.specs.declared.entity.EntityData.{EntityData}
use Rattle.sc_world.specs.declared.world.World.{World}
use Rattle.sc_world.specs.Stores.{stored}
use Rattle.sc_eval.specs.Outcomes.{Outcome, ◌>>=◌, as_entity}

-- ---- attributes

abbrev pub or_missing : Option Value → Outcome
or_missing None = Err AttrMissing
or_missing (Some x) = Ok x

-- an attribute of an entity that is stored or not
abbrev pub attr_of : List ℕ → Option EntityData → Outcome
attr_of name None = Err EntityMissing
attr_of name (Some e) = or_missing (field name e.attrs)

-- a field of a record, or an attribute of an entity
abbrev pub access_in : List ℕ → World → Value-F Value → Outcome
access_in name w (v.Record fields) = or_missing (field name fields)
access_in name w (v.Entity u) = attr_of name (stored u w.store)
access_in name w _ = Err TypeError

abbrev pub access : List ℕ → World → Value → Outcome
access name w x = access_in name w (out-Value x)

-- an entity that isn't stored has no attributes
abbrev pub has_attr : List ℕ → Option EntityData → Bool
has_attr name None = false
has_attr name (Some e) = is_some (field name e.attrs)

abbrev pub has_in : List ℕ → World → Value-F Value → Result Bool EvalError
has_in name w (v.Record fields) = Ok (is_some (field name fields))
has_in name w (v.Entity u) = Ok (has_attr name (stored u w.store))
has_in name w _ = Err TypeError

abbrev pub has : List ℕ → World → Value → Result Bool EvalError
has name w x = has_in name w (out-Value x)

-- the value has the first name, what is there has the next one, and so on; false at the first that isn't there
abbrev pub has_path : List (List ℕ) → World → Value → Result Bool EvalError
has_path [] w x = Ok true
has_path (name ∷ names) w x = has name w x >>= λ p. if p then (access name w x >>= has_path names w) else Ok false

-- ---- tags

-- an entity that isn't stored has no tags
abbrev pub has_tag : List ℕ → Option EntityData → Bool
has_tag key None = false
has_tag key (Some e) = is_some (field key e.tags)

abbrev pub tag_or_missing : Option Value → Outcome
tag_or_missing None = Err TagMissing
tag_or_missing (Some x) = Ok x

abbrev pub tag_of : List ℕ → Option EntityData → Outcome
tag_of key None = Err EntityMissing
tag_of key (Some e) = tag_or_missing (field key e.tags)

-- ---- types and ancestors

-- the entity is of the type
abbrev pub is_of : List ℕ → Value → Result Bool EvalError
is_of name x = as_entity x >>= λ u. Ok (bytes_eq u.type_name name)

abbrev pub same_uid : Uid → Uid → Bool
same_uid a b = is_eq (uid_cmp a b)

-- an entity that isn't stored has no ancestors
abbrev pub ancestors_of : Option EntityData → List Uid
ancestors_of None = []
ancestors_of (Some e) = e.ancestors

-- a is b, or b is among its ancestors
abbrev pub is_or_in : World → Uid → Uid → Bool
is_or_in w a b = same_uid a b || list_any (same_uid b) (ancestors_of (stored a w.store))

-- entities throughout
abbrev pub all_entities : List Value → Result (List Uid) EvalError
all_entities [] = Ok []
all_entities (x ∷ xs) = as_entity x >>= λ u. all_entities xs >>= λ us. Ok (u ∷ us)

-- one entity, or a set of entities
abbrev pub entities_in : Value-F Value → Result (List Uid) EvalError
entities_in (v.Entity u) = Ok (u ∷ [])
entities_in (v.Set members) = all_entities members
entities_in _ = Err TypeError

-- an entity is one of some entities, or in one
abbrev pub is_in : World → Value → Value → Result Bool EvalError
is_in w x y = as_entity x >>= λ a. entities_in (out-Value y) >>= λ bs. Ok (list_any (is_or_in w a) bs)

-- the same where the entities are members of a set
abbrev pub is_in_some : World → Uid → List Value → Result Bool EvalError
is_in_some w a members = all_entities members >>= λ bs. Ok (list_any (is_or_in w a) bs)
