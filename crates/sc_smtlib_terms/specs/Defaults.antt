-- The default of a sort, written out whole.
use Rattle.std.specs.Prelude.{ℕ, pos, List, [], ◌∷◌, map}
use Rattle.sc_ip.specs.declared.ip.Ip.TheVariants.{V4}
use Rattle.sc_names.specs.declared.uid.Uid.{Uid}
use Rattle.sc_sorts.specs.declared.sort.Sort.{Sort, Sort-F}
use Rattle.sc_sorts.specs.declared.sort.Sort.TheOpen as s
use Rattle.sc_sorts.specs.Defaults.{default_uid}
use Rattle.sc_smtlib_forms.specs.Forms.{plain, with_one, with_two}
use Rattle.sc_smtlib_forms.specs.declared.form.Form.TheVariants as form
use Rattle.sc_smtlib_terms.specs.Seen.{Seen, told_by}
use Rattle.sc_smtlib_terms.specs.Patterns.{spaced}
use Rattle.sc_smtlib_terms.specs.Sets.{set_text}
use Rattle.sc_smtlib_terms.specs.Sorts.{record_name, option_name, sort_text}
use Rattle.sc_smtlib_terms.specs.Literals.{long_text, ip_text, uid_text}

abbrev pub none_text : List Sort → Sort → List ℕ
none_text ds option = with_one form.None (option_name ds option)

-- the record of a sort, of the texts of its fields
abbrev pub record_text : List ℕ → List (List ℕ) → List ℕ
record_text r [] = with_one form.EmptyRecord r
record_text r (a ∷ rest) = with_two form.Record r (spaced (a ∷ rest))

abbrev pub entity_default : List ℕ → List Uid → List ℕ
entity_default name choices = uid_text (default_uid name choices) choices

abbrev pub empty_set : List Sort → Sort → List ℕ
empty_set ds set = set_text (sort_text ds set) []

abbrev pub default_step : List Sort → Sort → Sort-F (Seen (List ℕ)) → List ℕ
default_step ds x s.Bool = plain form.False
default_step ds x s.Long = long_text (pos 0)
default_step ds x s.String = with_one form.Text []
default_step ds x s.Decimal = long_text (pos 0)
default_step ds x s.Ip = ip_text (V4 0 32)
default_step ds x (s.Entity name choices) = entity_default name choices
default_step ds x (s.Set member) = empty_set ds x
default_step ds x (s.Record fields) =
    record_text (record_name ds x) (map (λ (f : List ℕ × Seen (List ℕ)). f.1.1) fields)
default_step ds x (s.Option held) = none_text ds x

unfoldable pub default_text : List Sort → Sort → List ℕ
default_text ds = told_by (List ℕ) (default_step ds)
