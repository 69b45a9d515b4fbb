-- What the kind of a token says of its text.
use Rattle.std.proofs.Common.{◌≡◌, ℕ, List, [], ◌∷◌, true, inl, inr, arith, Some}
use Rattle.std.proofs.lemmas.Bool.Decides.{nat_tests}
use Rattle.std.proofs.lemmas.Bool.{cases_Bool}
use Rattle.sc_names.specs.Names.{is_word}
use Rattle.sc_lexer.specs.declared.token.Kind.{Kind}
use Rattle.sc_lexer.specs.declared.token.Kind.TheVariants.{Word, Number, Str}
use Rattle.sc_lexer.specs.Tokens.{is_number, is_string, one_sign, two_sign, sign_of, kind_of}

-- which of the four sorts of tokens a text is
data Sort (t : List ℕ) (k : Kind) : Type 0 where
  word : is_word t ≡ true → k ≡ Word → Sort t k
  number : is_number t ≡ true → k ≡ Number → Sort t k
  string : is_string t ≡ true → k ≡ Str → Sort t k
  sign : sign_of t ≡ Some k → Sort t k

kind_same : {j k : Kind} → Some j ≡ Some k → k ≡ j
kind_same h = cc

sort_of : (t : List ℕ) (k : Kind) → kind_of t ≡ Some k → Sort t k
unfolding kind_of
sort_of t k h = elim (cases_Bool (is_word t)) [
  | inl yes_word ↦ word yes_word (kind_same (rw yes_word at h))
  | inr no_word ↦ elim (cases_Bool (is_number t)) [
    | inl yes_number ↦ number yes_number (kind_same (rw (no_word, yes_number) at h))
    | inr no_number ↦ elim (cases_Bool (is_string t)) [
      | inl yes_string ↦ string yes_string (kind_same (rw (no_word, no_number, yes_string) at h))
      | inr no_string ↦ sign (rw (no_word, no_number, no_string) at h)
    ]
  ]
]

-- no sign is a word, a number or a string
sign-word : (t : List ℕ) → sign_of t ≡ Some Word → ⊥
unfolding one_sign two_sign
sign-word [] h = cc
sign-word (a ∷ []) h = grind (arith, nat_tests)
sign-word (a ∷ b ∷ []) h = grind (arith, nat_tests)
sign-word (a ∷ b ∷ c ∷ cs) h = cc

sign-number : (t : List ℕ) → sign_of t ≡ Some Number → ⊥
unfolding one_sign two_sign
sign-number [] h = cc
sign-number (a ∷ []) h = grind (arith, nat_tests)
sign-number (a ∷ b ∷ []) h = grind (arith, nat_tests)
sign-number (a ∷ b ∷ c ∷ cs) h = cc

sign-string : (t : List ℕ) → sign_of t ≡ Some Str → ⊥
unfolding one_sign two_sign
sign-string [] h = cc
sign-string (a ∷ []) h = grind (arith, nat_tests)
sign-string (a ∷ b ∷ []) h = grind (arith, nat_tests)
sign-string (a ∷ b ∷ c ∷ cs) h = cc

pub is_word-kind : (t : List ℕ) → kind_of t ≡ Some Word → is_word t ≡ true
is_word-kind t h = elim (sort_of t Word h) [
  | word is e ↦ is
  | number is e ↦ cc
  | string is e ↦ cc
  | sign is ↦ absurd (sign-word t is)
]

pub is_number-kind : (t : List ℕ) → kind_of t ≡ Some Number → is_number t ≡ true
is_number-kind t h = elim (sort_of t Number h) [
  | word is e ↦ cc
  | number is e ↦ is
  | string is e ↦ cc
  | sign is ↦ absurd (sign-number t is)
]

pub is_string-kind : (t : List ℕ) → kind_of t ≡ Some Str → is_string t ≡ true
is_string-kind t h = elim (sort_of t Str h) [
  | word is e ↦ cc
  | number is e ↦ cc
  | string is e ↦ is
  | sign is ↦ absurd (sign-string t is)
]
