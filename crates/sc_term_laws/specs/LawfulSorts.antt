-- The sorts of a schema's values.
use Rattle.std.specs.Prelude.{◌≡◌, ◌⊎◌, ℕ, List, false, IsTrue, ⊤}
use Rattle.std.specs.List.{AllByRecursion}
use Rattle.std.specs.List.Sorted.{IsStrictlySortedBy}
use Rattle.std.specs.Map.{keys_of}
use Rattle.std.specs.Str.{IsUtf8}
use Rattle.sc_names.specs.Uids.{text_cmp}
use Rattle.sc_schema.specs.Declarations.{Declarations, is_action_type}
use Rattle.sc_schema.specs.Lawful.{IsEntityType}
use Rattle.sc_sorts.specs.declared.sort.Sort.{Sort, Sort-F, every-Sort}
use Rattle.sc_sorts.specs.declared.sort.Sort.TheOpen as s
use Rattle.sc_sorts.specs.Entities.{choices_of}
use Rattle.sc_sorts.specs.Defaults.{is_option}

-- names of fields are texts that ascend
abbrev pub AreNames : List (List ℕ) → Type 0
AreNames names = IsStrictlySortedBy text_cmp names × AllByRecursion IsUtf8 names

-- what bears a name that is a text
unfoldable pub IsNamed : {V : Type 0} → List ℕ × V → Type 0
IsNamed f = IsUtf8 f.0

-- a type of entities or of actions is declared
abbrev pub IsDeclared : Declarations → List ℕ → Type 0
IsDeclared d name = IsEntityType d name ⊎ IsTrue (is_action_type d name)

-- but for the sorts inside it: an entity sort is of a declared type and lists its choices, and no option is held by a
-- set or by an option
abbrev pub IsSortLevel : Declarations → Sort-F Sort → Type 0
IsSortLevel d s.Bool = ⊤
IsSortLevel d s.Long = ⊤
IsSortLevel d s.String = ⊤
IsSortLevel d s.Decimal = ⊤
IsSortLevel d s.Ip = ⊤
IsSortLevel d (s.Entity name choices) = IsDeclared d name × (choices ≡ choices_of d name)
IsSortLevel d (s.Set member) = is_option member ≡ false
IsSortLevel d (s.Record fields) = AreNames (keys_of fields)
IsSortLevel d (s.Option held) = is_option held ≡ false

abbrev pub IsSortOf : Declarations → Sort → Type 0
IsSortOf d = every-Sort (IsSortLevel d)

-- such a sort, and none of options: what sets and options hold
abbrev pub IsHeldSort : Declarations → Sort → Type 0
IsHeldSort d k = (is_option k ≡ false) × IsSortOf d k
