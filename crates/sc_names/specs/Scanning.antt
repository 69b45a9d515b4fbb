-- Where in a path one is after some bytes. No public promise speaks of places: they are what the readers of paths keep,
-- and the laws show that they tell what a path is.
use Rattle.std.specs.Prelude.{◌≡◌, ℕ, ◌+◌, ◌≤◌, length, take, drop, ◌&&◌, ◌==◌, if◌then◌else◌, List, [], ◌∷◌, ◌++◌, Bool, true, false}
use Rattle.std.specs.List.{take_while}
use Rattle.sc_names.specs.Names.{begins_word, goes_on_word, is_ident}

-- before an identifier, in a word, after a first colon, or where no path goes
pub data Place : Type 0 where
  start : Place
  word : List ℕ → Place
  colon : Place
  nowhere : Place

unfoldable pub next : Place → ℕ → Place
next start c = if begins_word c then word (c ∷ []) else nowhere
next (word w) c = if goes_on_word c then word (w ++ c ∷ []) else (if (c == 58) && is_ident w then colon else nowhere)
next colon c = if c == 58 then start else nowhere
next nowhere c = nowhere

unfoldable pub place : Place → List ℕ → Place
place p [] = p
place p (c ∷ cs) = place (next p c) cs

-- a path may end there
unfoldable pub is_end : Place → Bool
is_end start = false
is_end (word w) = is_ident w
is_end colon = false
is_end nowhere = false

-- a path may go on there, or end
unfoldable pub is_somewhere : Place → Bool
is_somewhere start = true
is_somewhere (word w) = true
is_somewhere colon = true
is_somewhere nowhere = false

-- how many bytes the longest word has that the bytes begin with
unfoldable pub word_len : List ℕ → ℕ
word_len [] = 0
word_len (c ∷ cs) = if begins_word c then length (take_while goes_on_word cs) + 1 else 0

-- how many of the two colons of a `::` the bytes begin with
unfoldable pub colons : List ℕ → ℕ
colons bytes = length (take_while (λ c. c == 58) (take 2 bytes))

-- no path goes on with these bytes, nor ends before them
unfoldable pub Stops : Place → List ℕ → Type 0
Stops p [] = is_end p ≡ false
Stops p (c ∷ cs) = next p c ≡ nowhere

-- the bytes of a text before `at` lead from the start to this place
pub record Stands (text : List ℕ) (at : ℕ) (p : Place) : Type 0 where
  pub within : at ≤ length text
  pub there : place start (take at text) ≡ p

-- an identifier ends at `at`, which no byte there makes longer
pub record EndsIdent (text : List ℕ) (at : ℕ) : Type 0 where
  pub name : List ℕ
  pub is_name : is_ident name ≡ true
  pub stands : Stands text at (word name)
  pub longest : take_while goes_on_word (drop at text) ≡ []
