-- Signs of which there are many texts. No public promise speaks of it.
use Rattle.std.specs.Prelude.{◌≤◌, ◌++◌, ℕ, Bool, List, [], ◌∷◌, length}
use Rattle.sc_lists.specs.Members.{Has}
use Rattle.sc_pattern.specs.declared.part.Part.TheVariants.{Star, Char}
use Rattle.sc_languages.specs.Strings.{IsText, AreDistinct, Obeys}
use Rattle.sc_rule_laws.specs.Strings.{Pattern}

-- the characters that a pattern names
abbrev pub pattern_letters : Pattern → List ℕ
pattern_letters [] = []
pattern_letters (Star ∷ parts) = pattern_letters parts
pattern_letters (Char c ∷ parts) = c ∷ pattern_letters parts

-- and those that some patterns name
abbrev pub letters_of : List Pattern → List ℕ
letters_of [] = []
letters_of (q ∷ qs) = pattern_letters q ++ letters_of qs

-- the texts that have a character
abbrev pub having : ℕ → Pattern
having c = Star ∷ Char c ∷ Star ∷ []

-- a text that has a character, and the signs
pub record HasOther (qs : List Pattern) (signs : List Bool) (c : ℕ) : Type 0 where
  pub text : List ℕ
  pub is_text : IsText text
  pub obeys : Obeys qs signs text
  pub has : Has text c

-- so many distinct texts have the signs
pub record AreMany (qs : List Pattern) (signs : List Bool) (count : ℕ) : Type 0 where
  pub texts : List (List ℕ)
  pub distinct : AreDistinct texts
  pub are_texts : (text : List ℕ) → Has texts text → IsText text
  pub obey : (text : List ℕ) → Has texts text → Obeys qs signs text
  pub enough : count ≤ length texts
