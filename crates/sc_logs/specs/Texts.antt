-- The text of a log.
use Rattle.std.specs.Prelude.{◌==◌, ℕ, List, [], ◌∷◌, ◌++◌, map, Bool, true, false, not, Option, Some, None, codes, if◌then◌else◌}
use Rattle.std.specs.Str.{bytes_eq}
use Rattle.std.specs.Fmt.{decimal}
use Rattle.std.specs.List.{flat_map, list_all, join_with_byte}
use Rattle.sc_clauses.specs.declared.lit.Lit.{Lit}
use Rattle.sc_clauses.specs.declared.step.Word.{Word}
use Rattle.sc_clauses.specs.declared.step.Word.TheVariants.{Number, Signs}
use Rattle.sc_clauses.specs.declared.step.Instance as instance
use Rattle.sc_clauses.specs.declared.step.Learned as learned
use Rattle.sc_clauses.specs.declared.step.Step.{Step}
use Rattle.sc_clauses.specs.declared.step.Step.TheVariants.{Instance, Learned}

-- `+`, `-`, or `.` where there is no sign
abbrev pub sign_text : Option Bool → ℕ
sign_text (Some true) = 43
sign_text (Some false) = 45
sign_text None = 46

abbrev pub word_text : Word → List ℕ
word_text (Number n) = decimal n
word_text (Signs signs) = map sign_text signs

-- the number of the atom, after `-` where it is negated
abbrev pub lit_text : Lit → List ℕ
lit_text l = if l.negated then 45 ∷ decimal l.atom else decimal l.atom

-- `0`, which ends a list of literals or hints
abbrev pub zero_text : List ℕ
zero_text = 48 ∷ []

abbrev pub has_no_zero : List (List ℕ) → Bool
has_no_zero words = list_all (λ w. not (bytes_eq w zero_text)) words

-- the rule's word, and the words
abbrev pub instance_words : instance.Instance → List (List ℕ)
instance_words i = i.rule ∷ map word_text i.words

-- the words of values, `0`, and further words
abbrev pub ended_words : {X : Type 0} → (X → List ℕ) → List X × List (List ℕ) → List (List ℕ)
ended_words text p = map text p.0 ++ zero_text ∷ p.1

-- the hints, `0`
abbrev pub hint_words : List ℕ → List (List ℕ)
hint_words hints = map decimal hints ++ zero_text ∷ []

-- the literals, `0`, the hints, `0`
abbrev pub learned_words : learned.Learned → List (List ℕ)
learned_words l = map lit_text l.clause ++ zero_text ∷ hint_words l.hints

-- `t` and an instance, or `l` and a learned clause
abbrev pub step_words : Step → List (List ℕ)
step_words (Instance i) = (116 ∷ []) ∷ instance_words i
step_words (Learned l) = (108 ∷ []) ∷ learned_words l

-- a step's line, without its end: its words are separated by one space
abbrev pub step_line : Step → List ℕ
step_line s = join_with_byte 32 (step_words s)

-- no byte is this one
abbrev pub lacks : ℕ → List ℕ → Bool
lacks byte bytes = list_all (λ b. not (b == byte)) bytes

abbrev pub has_no_newline : List ℕ → Bool
has_no_newline bytes = lacks 10 bytes

-- a line of its own for each step; a newline ends it
abbrev pub steps_text : List Step → List ℕ
steps_text ss = flat_map (λ s. step_line s ++ 10 ∷ []) ss

abbrev pub first_line : List ℕ
first_line = codes "log 1\n"

-- the text of a log: its first line, and a line for each step
abbrev pub log_text : List Step → List ℕ
log_text ss = first_line ++ steps_text ss

-- words with a space before each
abbrev pub spaced : List (List ℕ) → List ℕ
spaced words = flat_map (λ w. 32 ∷ w) words
