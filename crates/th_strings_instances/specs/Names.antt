-- Which rule on strings an instance names, with what it gives. A log can hold each of its words.
use Rattle.std.specs.Prelude.{◌≡◌, ℕ, Bool, true, false, List, [], ◌∷◌, map, codes, Option, Some, None, if◌then◌else◌, refl}
use Rattle.std.specs.List.{list_all}
use Rattle.std.specs.Str.{bytes_eq}
use Rattle.sc_clauses.specs.declared.step.Instance.{Instance}
use Rattle.sc_clauses.specs.declared.step.Word.{Word}
use Rattle.sc_clauses.specs.declared.step.Word.TheVariants.{Number, Signs as Signed}
use Rattle.sc_footprint.specs.Written.{is_word}
use Rattle.sc_rule_laws.specs.Strings.{Signs}
use Rattle.th_strings_instances.specs.declared.rule.StringRule.{StringRule}
use Rattle.th_strings_instances.specs.declared.rule.StringRule.TheVariants.{St1, St2, St3}

-- the word is a number, and which one; 0 where it is none
abbrev pub is_numeral : Word → Bool
is_numeral (Number n) = true
is_numeral (Signed v) = false

abbrev pub number_in : Word → ℕ
number_in (Number n) = n
number_in (Signed v) = 0

-- the three numbers that words are
abbrev pub three_numbers : List Word → Option (ℕ × ℕ × ℕ)
three_numbers (Number a ∷ Number b ∷ Number c ∷ []) = Some (a, b, c)
three_numbers _ = None

-- ST1 of two strings and the place of a pattern
abbrev pub matched : ℕ → ℕ → ℕ → StringRule
matched a b i = St1 a b i

abbrev pub plain_named : List ℕ → Option (ℕ × ℕ × ℕ) → Option StringRule
plain_named rule (Some (a, b, c)) = if bytes_eq rule (codes "ST1") then Some (matched a b c) else None
plain_named rule None = None

-- a counting rule of signs and strings
abbrev pub counted_named : List ℕ → Signs → List ℕ → Option StringRule
counted_named rule v ns =
    if bytes_eq rule (codes "ST2") then Some (St2 v ns)
    else if bytes_eq rule (codes "ST3") then Some (St3 v ns)
    else None

-- where the words after the signs are numbers
abbrev pub counted_if : List ℕ → Signs → List Word → Option StringRule
counted_if rule v ws = if list_all is_numeral ws then counted_named rule v (map number_in ws) else None

abbrev pub string_named : List ℕ → List Word → Option StringRule
string_named rule (Signed v ∷ ws) = counted_if rule v ws
string_named rule ws = plain_named rule (three_numbers ws)

abbrev pub string_rule : Instance → Option StringRule
string_rule i = if list_all is_word i.words then string_named i.rule i.words else None

-- ---- worked rows

pub st1_is_named : string_named (codes "ST1") (Number 4 ∷ Number 7 ∷ Number 0 ∷ []) ≡ Some (St1 4 7 0)
st1_is_named = refl

pub st1_wants_three : string_named (codes "ST1") (Number 4 ∷ Number 7 ∷ []) ≡ None
st1_wants_three = refl

pub st2_is_named : string_named (codes "ST2") (Signed (Some true ∷ Some false ∷ []) ∷ Number 3 ∷ [])
    ≡ Some (St2 (Some true ∷ Some false ∷ []) (3 ∷ []))
st2_is_named = refl

pub st3_is_named : string_named (codes "ST3") (Signed (Some true ∷ None ∷ []) ∷ Number 3 ∷ Number 8 ∷ [])
    ≡ Some (St3 (Some true ∷ None ∷ []) (3 ∷ 8 ∷ []))
st3_is_named = refl

pub signs_come_first : string_named (codes "ST3") (Number 3 ∷ Signed (Some true ∷ []) ∷ []) ≡ None
signs_come_first = refl
