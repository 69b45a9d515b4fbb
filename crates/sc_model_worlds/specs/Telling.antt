-- The tag of an entity that terms tell, and which sorts are of entities that are given.
use Rattle.std.specs.Prelude.{◌==◌, ℕ, Bool, false, List, length, unwrap_or}
use Rattle.sc_names.specs.declared.uid.Uid.{Uid}
use Rattle.sc_schema.specs.Declarations.{Declarations, tags_of}
use Rattle.sc_values.specs.declared.value.Value.{Value}
use Rattle.sc_sorts.specs.declared.sort.Sort.{Sort, Sort-F}
use Rattle.sc_sorts.specs.declared.sort.Sort.TheOpen as s
use Rattle.sc_terms.specs.Trees.{Tree}
use Rattle.sc_model_laws.specs.Vals.{Model}
use Rattle.sc_model_world_laws.specs.Rebuilt.{first_said, tag_said, tag_default}

abbrev pub tag_told : Declarations → Model → Uid → List Tree → List ℕ → Value
tag_told d m u ts key = unwrap_or (first_said (tag_said m u key) ts) (tag_default d (tags_of d u.type_name))

-- entities of this sort are given, if it is that of no type of actions
abbrev pub given_sort : Sort-F Sort → Bool
given_sort (s.Entity name us) = length us == 0
given_sort _ = false
