-- Records as lists of names and values.
use Rattle.std.specs.Prelude.{◌≢◌, ◌≤◌, ℕ, List, Option, count_by, ⊤}
use Rattle.std.specs.List.Sorted.{IsStrictlySortedBy, IsPermutation}
use Rattle.std.specs.Map.{keys_of, lookup}
use Rattle.std.specs.Str.{bytes_eq}
use Rattle.std.specs.declared.cmp.Ordering.TheVariants.{Greater}
use Rattle.sc_lists.specs.declared.fault.Fault.{Fault}
use Rattle.sc_lists.specs.declared.fault.Fault.TheVariants.{Told, NoMemory}
use Rattle.sc_names.specs.Uids.{text_cmp}
use Rattle.sc_values.specs.declared.duplicate_key.DuplicateKey.{DuplicateKey}
use Rattle.sc_values.specs.declared.value.Value.{Value}

abbrev pub Fields : Type 0
Fields = List (List ℕ × Value)

-- the value of a field
abbrev pub field : List ℕ → Fields → Option Value
field name fields = lookup (bytes_eq name) fields

-- a record has just these pairs, in the order of their keys, each key once
pub record IsRecOf (pairs : Fields) (fields : Fields) : Type 0 where
  pub ascending : IsStrictlySortedBy text_cmp (keys_of fields)
  pub just : IsPermutation pairs fields

-- at least two of the pairs have this key
abbrev pub IsRepeated : Fields → List ℕ → Type 0
IsRepeated pairs key = 2 ≤ count_by (bytes_eq key) (keys_of pairs)

-- the least key that at least two of the pairs have
pub record IsDuplicateKey (pairs : Fields) (key : List ℕ) : Type 0 where
  pub repeated : IsRepeated pairs key
  pub least : (k : List ℕ) → IsRepeated pairs k → text_cmp key k ≢ Greater

-- why pairs make no record
abbrev pub Refuses : Fields → Fault DuplicateKey → Type 0
Refuses pairs (Told duplicate) = IsDuplicateKey pairs duplicate.key
Refuses pairs NoMemory = ⊤
