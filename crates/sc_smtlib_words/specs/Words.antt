-- The words of a line of a script, and how they are spelled: a parenthesis is a word, what stands between bars or
-- quotes is one, and so is what stands between spaces and parentheses. A space stands between two words, but none
-- behind `(` and before `)`.
use Rattle.std.specs.Prelude.{◌≡◌, ◌&&◌, ◌||◌, ◌==◌, ℕ, Bool, true, false, not, List, [], ◌∷◌, ◌++◌, bytes_eq, if◌then◌else◌, ⊤}
use Rattle.std.specs.List.{list_all}
use Rattle.sc_smtlib_words.specs.Cut.{lacks}
pub use Rattle.sc_smtlib_words.specs.declared.words.Mode.{Mode}
pub use Rattle.sc_smtlib_words.specs.declared.words.Mode.TheVariants.{Between as between, InWord as in_word, InBars as in_bars, InText as in_text, AtQuote as at_quote}

abbrev pub Word : Type 0
Word = List ℕ

abbrev pub open_word : Word
open_word = 40 ∷ []

abbrev pub close_word : Word
close_word = 41 ∷ []

-- ---- words as a text

abbrev pub gap : Word → Word → List ℕ
gap t u = if bytes_eq t open_word || bytes_eq u close_word then [] else 32 ∷ []

abbrev pub rest_of : Word → List Word → List ℕ
rest_of t [] = []
rest_of t (u ∷ us) = gap t u ++ (u ++ rest_of u us)

unfoldable pub spelled : List Word → List ℕ
spelled [] = []
spelled (t ∷ ts) = t ++ rest_of t ts

-- ---- what is a word

abbrev pub is_special : ℕ → Bool
is_special b = b == 32 || (b == 40 || b == 41)

abbrev pub is_plain_byte : ℕ → Bool
is_plain_byte b = not (is_special b || (b == 34 || (b == 124 || b == 10)))

-- one byte or more, none of which has a meaning of its own
abbrev pub is_plain : Word → Bool
is_plain [] = false
is_plain (b ∷ bs) = is_plain_byte b && list_all is_plain_byte bs

-- each quote is followed by another one
pub data IsDoubled : List ℕ → Type 0 where
  none : IsDoubled []
  doubled : {bs : List ℕ} → IsDoubled bs → IsDoubled (34 ∷ 34 ∷ bs)
  other : {b : ℕ} {bs : List ℕ} → (b == 34) ≡ false → IsDoubled bs → IsDoubled (b ∷ bs)

pub data IsWord : Word → Type 0 where
  opening : IsWord (40 ∷ [])
  closing : IsWord (41 ∷ [])
  plain_word : {w : Word} → is_plain w ≡ true → IsWord w
  bars : (w : List ℕ) → lacks 124 w ≡ true → lacks 10 w ≡ true → IsWord (124 ∷ (w ++ 124 ∷ []))
  quoted : (w : List ℕ) → IsDoubled w → lacks 10 w ≡ true → IsWord (34 ∷ (w ++ 34 ∷ []))

abbrev pub AreWords : List Word → Type 0
AreWords [] = ⊤
AreWords (w ∷ ws) = IsWord w × AreWords ws

-- ---- the words of a text, read byte by byte

-- what a byte that stands alone is
abbrev pub alone : ℕ → List Word
alone b = if b == 40 || b == 41 then (b ∷ []) ∷ [] else []

-- the words that end at a byte
abbrev pub ended : Mode → Word → ℕ → List Word
ended between now b = alone b
ended in_word now b = if is_special b then now ∷ alone b else []
ended in_bars now b = if b == 124 then (now ++ b ∷ []) ∷ [] else []
ended in_text now b = []
ended at_quote now b = if b == 34 then [] else now ∷ alone b

abbrev pub next_mode : Mode → ℕ → Mode
next_mode between b = if is_special b then between
    else (if b == 124 then in_bars else (if b == 34 then in_text else in_word))
next_mode in_word b = if is_special b then between else in_word
next_mode in_bars b = if b == 124 then between else in_bars
next_mode in_text b = if b == 34 then at_quote else in_text
next_mode at_quote b = if b == 34 then in_text else between

-- the word so far, after a byte
abbrev pub so_far : Mode → Word → ℕ → Word
so_far between now b = if is_special b then [] else b ∷ []
so_far in_word now b = if is_special b then [] else now ++ b ∷ []
so_far in_bars now b = if b == 124 then [] else now ++ b ∷ []
so_far in_text now b = now ++ b ∷ []
so_far at_quote now b = if b == 34 then now ++ b ∷ [] else []

abbrev pub last_word : Mode → Word → List Word
last_word between now = []
last_word _ now = now ∷ []

abbrev pub words_from : Mode → Word → List ℕ → List Word
words_from m now [] = last_word m now
words_from m now (b ∷ bs) = ended m now b ++ words_from (next_mode m b) (so_far m now b) bs

unfoldable pub words : List ℕ → List Word
words text = words_from between [] text
