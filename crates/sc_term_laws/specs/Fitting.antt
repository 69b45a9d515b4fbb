-- Which values fit a sort.
use Rattle.std.specs.Prelude.{◌≡◌, ◌&&◌, ◌⊎◌, ⊤, ℕ, List, map, Bool, true, false, Option, Some, None, IsTrue, IfSome}
use Rattle.std.specs.List.{list_all, list_any}
use Rattle.std.specs.Str.{bytes_eq}
use Rattle.sc_names.specs.declared.uid.Uid.{Uid}
use Rattle.sc_schema.specs.declared.declarations.Env.{Env}
use Rattle.sc_schema.specs.declared.ty.EntityKind.{EntityKind}
use Rattle.sc_schema.specs.Declarations.{Declarations}
use Rattle.sc_schema.specs.Lawful.{IsLawful}
use Rattle.sc_sorts.specs.declared.sort.Sort.{Sort, Sort-F, fold-Sort}
use Rattle.sc_sorts.specs.declared.sort.Sort.TheOpen as s
use Rattle.sc_sorts.specs.Defaults.{is_option, is_option_level, default_uid}
use Rattle.sc_sorts.specs.Entities.{choices_of, IsListed}
use Rattle.sc_values.specs.declared.value.Value.{Value, Value-F, out-Value, every-Value}
use Rattle.sc_values.specs.declared.value.Value.TheOpen as v
use Rattle.sc_values.specs.Proper.{IsProper}
use Rattle.sc_values.specs.Records.{Fields, field}
use Rattle.sc_world.specs.declared.world.World.{World}
use Rattle.sc_world.specs.Conforms.{is_bool, is_long, is_string, is_decimal, is_ip, is_entity_of, is_set_of}
use Rattle.sc_world.specs.Stores.{Entities}
use Rattle.sc_world.specs.WellFormed.{IsStored, IsWellFormed}
use Rattle.sc_terms.specs.Trees.{Tree}
use Rattle.sc_sorts.specs.Inside.{held_sort}
use Rattle.sc_terms.specs.Values.{Val, it, maybe, val, HasKinds}
use Rattle.sc_term_laws.specs.Judging.{IsTermOf}

abbrev pub Test : Type 0
Test = Value → Bool

-- whether a sort is one of options, and the test of its values, or of what its options hold
abbrev pub Seen : Type 0
Seen = Bool × Test

abbrev pub passes : Seen → Option Value → Bool
passes x None = x.0
passes x (Some y) = x.1 y

-- each field of the sort that is there is of its sort, each that is of no option sort is there, and no other is
abbrev pub has_fields : List (List ℕ × Seen) → Fields → Bool
has_fields shape fields =
    list_all (λ (a : List ℕ × Seen). passes a.1 (field a.0 fields)) shape
    && list_all (λ (f : List ℕ × Value). list_any (λ (a : List ℕ × Seen). bytes_eq f.0 a.0) shape) fields

abbrev pub is_record_of : List (List ℕ × Seen) → Value-F Value → Bool
is_record_of shape (v.Record fields) = has_fields shape fields
is_record_of shape _ = false

-- a type of entities by those that its sort lists
abbrev pub kind_listed : List ℕ → List Uid → EntityKind
kind_listed name choices = record { name = name; choices = map (λ (u : Uid). u.id) choices }

abbrev pub fits_step : Sort-F Seen → Test
fits_step s.Bool x = is_bool (out-Value x)
fits_step s.Long x = is_long (out-Value x)
fits_step s.String x = is_string (out-Value x)
fits_step s.Decimal x = is_decimal (out-Value x)
fits_step s.Ip x = is_ip (out-Value x)
fits_step (s.Entity name choices) x = is_entity_of (kind_listed name choices) (out-Value x)
fits_step (s.Set member) x = is_set_of member.1 (out-Value x)
fits_step (s.Record fields) x = is_record_of fields (out-Value x)
fits_step (s.Option held) x = held.1 x

abbrev pub seen_step : Sort-F Seen → Seen
seen_step x = (is_option_level Seen x, fits_step x)

-- a value is of a sort, or is what an option of the sort holds
unfoldable pub fits : Sort → Value → Bool
fits x = (fold-Sort Seen seen_step x).1

-- it is stored, the default of its type, or listed by its type
abbrev pub IsKnown : Declarations → Entities → Uid → Type 0
IsKnown d es u = IsStored es u ⊎ ((u ≡ default_uid u.type_name (choices_of d u.type_name)) ⊎ IsListed d u)

-- an entity that a value names, but for the values inside it, is so
abbrev pub NamesKnownLevel : Declarations → Entities → Value-F Value → Type 0
NamesKnownLevel d es (v.Entity u) = IsKnown d es u
NamesKnownLevel d es _ = ⊤

abbrev pub NamesKnown : Declarations → Entities → Value → Type 0
NamesKnown d es = every-Value (NamesKnownLevel d es)

-- of the sort, made of values, and each entity that it names is stored, the default of its type, or listed by it
pub record IsOfSort (d : Declarations) (es : Entities) (k : Sort) (x : Value) : Type 0 where
  pub of_sort : IsTrue (fits k x)
  pub proper : IsProper x
  pub named : NamesKnown d es x

-- a value where the sort is none of options, and else an option
pub data Fits (d : Declarations) (es : Entities) (k : Sort) : Val → Type 0 where
  as_value : (x : Value) → is_option k ≡ false → IsOfSort d es k x → Fits d es k (it x)
  as_option : (o : Option Value) → is_option k ≡ true → IfSome o (IsOfSort d es (held_sort k)) → Fits d es k (maybe o)

-- in a well-formed world of a lawful schema the value of a term fits its sort
abbrev pub TermsFit : Type 0
TermsFit = (d : Declarations) (env : Env) (written : List Uid) (w : World) (k : Sort) (t : Tree)
    → IsLawful d → IsWellFormed d env written w → IsTermOf d env written k t → Fits d w.store k (val t w)

-- and the fields of a record term are options just where their sorts are
abbrev pub TermsHaveKinds : Type 0
TermsHaveKinds = (d : Declarations) (env : Env) (written : List Uid) (w : World) (k : Sort) (t : Tree)
    → IsLawful d → IsWellFormed d env written w → IsTermOf d env written k t → HasKinds t w
