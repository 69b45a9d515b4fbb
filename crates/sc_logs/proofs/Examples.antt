-- Lines, and the steps whose lines they are.
use Rattle.std.proofs.Common.{◌≡◌, [], ◌∷◌, true, false, codes, Some, None, refl}
use Rattle.sc_clauses.specs.declared.step.Word.{Word}
use Rattle.sc_clauses.specs.declared.step.Word.TheVariants.{Signs}
use Rattle.sc_clauses.specs.declared.step.Step.{Step}
use Rattle.sc_clauses.specs.declared.step.Step.TheVariants.{Instance}
use Rattle.sc_logs.specs.LineSteps.{has_number_form, likely_word, words_in, step_of}
use Rattle.sc_logs.specs.Texts.{word_text, ended_words}

-- `+.-`
abbrev signs : Word
signs = Signs (Some true ∷ None ∷ Some false ∷ [])

abbrev instance : Step
instance = Instance (record { rule = codes "ST3"; words = signs ∷ [] })

signs_written : word_text signs ≡ codes "+.-"
signs_written = refl

signs_read : likely_word (codes "+.-") ≡ signs
signs_read = refl

line_read : step_of (codes "t ST3 +.-") ≡ Some instance
unfolding step_of
line_read = refl

-- a comma is no sign
comma_read : step_of (codes "t ST3 +,-") ≡ None
unfolding step_of
comma_read = refl

-- two spaces have an empty word between them, and behind the end of a line there is none
line_words : words_in (Some (codes "l  1")) ≡ codes "l" ∷ [] ∷ codes "1" ∷ []
line_words = refl

nothing_left : words_in None ≡ []
nothing_left = refl

-- values, `0`, and further words
ended : ended_words word_text (signs ∷ [], codes "7" ∷ []) ≡ codes "+.-" ∷ codes "0" ∷ codes "7" ∷ []
ended = refl

one_zero : has_number_form (codes "0") ≡ true
one_zero = refl

leading_zero : has_number_form (codes "07") ≡ false
leading_zero = refl

many_digits : has_number_form (codes "1000000000000000000") ≡ false
many_digits = refl
