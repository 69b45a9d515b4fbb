-- The units of a duration, with the bytes of their letters.
use Rattle.std.specs.Prelude.{ℕ, List, [], ◌∷◌}
use Rattle.sc_date_texts.specs.declared.unit.Unit.{Unit}
use Rattle.sc_date_texts.specs.declared.unit.Unit.TheVariants.{Day, Hour, Minute, Second, Millisecond}

abbrev pub word_of : Unit → List ℕ
word_of Day = 100 ∷ []
word_of Hour = 104 ∷ []
word_of Minute = 109 ∷ []
word_of Second = 115 ∷ []
word_of Millisecond = 109 ∷ 115 ∷ []

abbrev pub milliseconds_of : Unit → ℕ
milliseconds_of Day = 86400000
milliseconds_of Hour = 3600000
milliseconds_of Minute = 60000
milliseconds_of Second = 1000
milliseconds_of Millisecond = 1

abbrev pub all_units : List Unit
all_units = Day ∷ Hour ∷ Minute ∷ Second ∷ Millisecond ∷ []
