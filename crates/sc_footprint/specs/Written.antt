-- Which instances have a text that a line of a log can hold.
use Rattle.std.specs.Prelude.{◌&&◌, ◌||◌, ◌==◌, ◌^◌, ℕ, List, Bool, not, nat_lt, nat_le, length}
use Rattle.std.specs.List.{list_all}
use Rattle.sc_clauses.specs.declared.step.Word.{Word}
use Rattle.sc_clauses.specs.declared.step.Word.TheVariants.{Number, Signs}
use Rattle.sc_clauses.specs.declared.step.Instance as instance

-- a number of at most 18 digits
abbrev pub is_number : ℕ → Bool
is_number n = nat_lt n (10 ^ 18)

abbrev pub is_between : ℕ → ℕ → ℕ → Bool
is_between first last byte = nat_le first byte && nat_le byte last

-- the byte is one of `0` to `9`, `A` to `Z` or `a` to `z`
abbrev pub is_letter_or_digit : ℕ → Bool
is_letter_or_digit byte = is_between 48 57 byte || is_between 65 90 byte || is_between 97 122 byte

abbrev pub is_rule_word : List ℕ → Bool
is_rule_word rule = not (length rule == 0) && list_all is_letter_or_digit rule

abbrev pub is_word : Word → Bool
is_word (Number n) = is_number n
is_word (Signs signs) = not (length signs == 0)

abbrev pub is_instance : instance.Instance → Bool
is_instance i = is_rule_word i.rule && list_all is_word i.words
