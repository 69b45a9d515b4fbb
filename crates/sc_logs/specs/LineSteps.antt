-- The step whose line some bytes are.
use Rattle.std.specs.Prelude.{◌&&◌, ◌||◌, ◌==◌, ◌-◌, ℕ, List, [], ◌∷◌, map, drop, get_or, length, Bool, true, false, not, nat_lt, nat_le, Option, Some, None, if◌then◌else◌}
use Rattle.std.specs.List.{slice_split}
use Rattle.std.specs.Str.{bytes_eq}
use Rattle.std.specs.Str.Parse.{digits_value}
use Rattle.sc_clauses.specs.declared.lit.Lit.{Lit}
use Rattle.sc_clauses.specs.declared.step.Word.{Word}
use Rattle.sc_clauses.specs.declared.step.Word.TheVariants.{Number, Signs}
use Rattle.sc_clauses.specs.declared.step.Instance as instance
use Rattle.sc_clauses.specs.declared.step.Learned as learned
use Rattle.sc_clauses.specs.declared.step.Step.{Step}
use Rattle.sc_clauses.specs.declared.step.Step.TheVariants.{Instance, Learned}
use Rattle.sc_logs.specs.Texts.{zero_text, step_line}
use Rattle.sc_logs.specs.Writable.{is_writable}

-- ---- the words of a line

-- the words of what is left of a line; behind its end there are none
abbrev pub words_in : Option (List ℕ) → List (List ℕ)
words_in None = []
words_in (Some rest) = slice_split (λ b. b == 32) rest

-- the last byte is a newline
abbrev pub ends_line : List ℕ → Bool
ends_line bytes = get_or bytes (length bytes - 1) 0 == 10

-- ---- what a text could only be, where it is one at all

abbrev pub begins_with : ℕ → List ℕ → Bool
begins_with byte [] = false
begins_with byte (b ∷ bs) = b == byte

-- as many bytes as a number has digits, of which the first is `0` only where there is one
abbrev pub has_number_form : List ℕ → Bool
has_number_form w = nat_lt 0 (length w) && nat_le (length w) 18 && (length w == 1 || not (begins_with 48 w))

abbrev pub likely_sign : ℕ → Option Bool
likely_sign b = if b == 46 then None else Some (b == 43)

-- a word that begins with `+`, `-` or `.` could only be signs
abbrev pub likely_word : List ℕ → Word
likely_word w = if begins_with 43 w || begins_with 45 w || begins_with 46 w then Signs (map likely_sign w)
    else Number (digits_value 10 w)

abbrev pub likely_lit : List ℕ → Lit
likely_lit w = if begins_with 45 w then record { atom = digits_value 10 (drop 1 w); negated = true }
    else record { atom = digits_value 10 w; negated = false }

-- the words before the first `0`, and those after it
abbrev pub before_zero : List (List ℕ) → List (List ℕ)
before_zero [] = []
before_zero (w ∷ ws) = if bytes_eq w zero_text then [] else w ∷ before_zero ws

abbrev pub after_zero : List (List ℕ) → List (List ℕ)
after_zero [] = []
after_zero (w ∷ ws) = if bytes_eq w zero_text then ws else after_zero ws

abbrev pub likely_learned : List (List ℕ) → learned.Learned
likely_learned ws = record {
  clause = map likely_lit (before_zero ws);
  hints = map (digits_value 10) (before_zero (after_zero ws));
}

abbrev pub likely_instance : List (List ℕ) → instance.Instance
likely_instance ws = record { rule = get_or ws 0 []; words = map likely_word (drop 1 ws) }

abbrev pub likely_step : List (List ℕ) → Step
likely_step ws = if begins_with 108 (get_or ws 0 []) then Learned (likely_learned (drop 1 ws))
    else Instance (likely_instance (drop 1 ws))

-- ---- what it is

-- the step, where it has a text and the line is that
abbrev pub if_written : Step → List ℕ → Option Step
if_written s line = if is_writable s && bytes_eq (step_line s) line then Some s else None

-- the step whose line this is, without its newline
unfoldable pub step_of : List ℕ → Option Step
step_of line = if_written (likely_step (slice_split (λ b. b == 32) line)) line
