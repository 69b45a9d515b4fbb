-- The default of each sort.
use Rattle.std.specs.Prelude.{ℕ, List, [], ◌∷◌, flat_map, Bool, true, false, pos}
use Rattle.sc_ip.specs.declared.ip.Ip.TheVariants.{V4}
use Rattle.sc_names.specs.declared.uid.Uid.{Uid}
use Rattle.sc_values.specs.declared.value.Value.{Value}
use Rattle.sc_values.specs.declared.value.Value.TheVariants as value
use Rattle.sc_values.specs.Records.{Fields}
use Rattle.sc_sorts.specs.declared.sort.Sort.{Sort, Sort-F, out-Sort, fold-Sort}
use Rattle.sc_sorts.specs.declared.sort.Sort.TheOpen as s

-- whether the values of a sort are options
abbrev pub is_option_level : (X : Type 0) → Sort-F X → Bool
is_option_level X (s.Option held) = true
is_option_level X _ = false

abbrev pub is_option : Sort → Bool
is_option x = is_option_level Sort (out-Sort x)

-- the first of the entities that are listed, and the entity with no id where none is
abbrev pub default_uid : List ℕ → List Uid → Uid
default_uid name [] = record { type_name = name; id = [] }
default_uid name (u ∷ us) = u

-- a record lacks by default the fields that it may lack
abbrev pub default_field : List ℕ → Bool → Value → Fields
default_field name true x = []
default_field name false x = (name, x) ∷ []

-- whether a sort is an option sort, and its default
abbrev pub Seen : Type 0
Seen = Bool × Value

-- a default, each sort inside being seen so
abbrev pub default_step : Sort-F Seen → Value
default_step s.Bool = value.Bool false
default_step s.Long = value.Long (pos 0)
default_step s.String = value.String []
default_step s.Decimal = value.Decimal (pos 0)
default_step s.Ip = value.Ip (V4 0 32)
default_step (s.Entity name choices) = value.Entity (default_uid name choices)
default_step (s.Set member) = value.Set []
default_step (s.Record fields) = value.Record (flat_map (λ (f : List ℕ × Seen). default_field f.0 f.1.0 f.1.1) fields)
default_step (s.Option held) = held.1

abbrev pub seen_step : Sort-F Seen → Seen
seen_step x = (is_option_level Seen x, default_step x)

-- the default of a sort; that of an option sort is the default of what it holds
unfoldable pub default_of : Sort → Value
default_of x = (fold-Sort Seen seen_step x).1
