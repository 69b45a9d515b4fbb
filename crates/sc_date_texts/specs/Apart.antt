-- Units of which no two have the same word.
use Rattle.std.specs.Prelude.{◌≢◌, ℕ, List, [], ◌∷◌, ⊤}
use Rattle.sc_date_texts.specs.declared.unit.Unit.{Unit}
use Rattle.sc_date_texts.specs.Units.{word_of}

abbrev pub LackWord : List ℕ → List Unit → Type 0
LackWord word [] = ⊤
LackWord word (unit ∷ units) = (word_of unit ≢ word) × LackWord word units

abbrev pub AreApart : List Unit → Type 0
AreApart [] = ⊤
AreApart (unit ∷ smaller) = LackWord (word_of unit) smaller × AreApart smaller
