-- The search for a text: the queue of sets of active items (marks), each with a text that leads there. No public
-- promise speaks of it.
use Rattle.std.specs.Prelude.{◌≡◌, ◌==◌, ◌⊎◌, ℕ, List, [], ◌∷◌, ◌++◌, Bool, true, false, map, take, length, ◌+◌, ◌<◌, ◌&&◌, ◌||◌, ⊤}
use Rattle.std.specs.Char.{IsScalar}
use Rattle.sc_lists.specs.Members.{Has}
use Rattle.sc_pattern.specs.declared.part.Part.{Part}
use Rattle.sc_languages.specs.declared.item.Item.{Item}
use Rattle.sc_languages.specs.declared.item.Item.TheVariants.{Star, Char, End}
use Rattle.sc_languages.specs.Items.{step, accepts, completes, obeys}
use Rattle.sc_languages.specs.Strings.{IsText, Obeys, AreDistinct}

abbrev pub Entry : Type 0
Entry = List Bool × List ℕ

abbrev pub places_of : List Entry → List (List Bool)
places_of es = map (λ (e : Entry). e.0) es

-- the queue holds these marks already, or they are appended
abbrev pub IsPut : List Entry → List Entry → List Bool → List ℕ → Type 0
IsPut old new marks word = ((new ≡ old) × Has (places_of old) marks) ⊎ (new ≡ old ++ (marks, word) ∷ [])

-- ---- an alphabet in which some character behaves like any given one

-- no item tells the two characters apart
abbrev pub AreAlike : List Item → ℕ → ℕ → Type 0
AreAlike [] c d = ⊤
AreAlike (Star ∷ items) c d = AreAlike items c d
AreAlike (Char x ∷ items) c d = ((c == x) ≡ (d == x)) × AreAlike items c d
AreAlike (End sign ∷ items) c d = AreAlike items c d

-- one character stands for another: they are equal, or no item tells them apart and no excluded text has the first
abbrev pub StandsFor : List Item → List (List ℕ) → ℕ → ℕ → Type 0
StandsFor items words d c = (d ≡ c) ⊎ (AreAlike items c d × ((w : List ℕ) → Has words w → ¬ (Has w d)))

-- for each character one of the alphabet stands
abbrev pub Covers : List Item → List (List ℕ) → List ℕ → Type 0
Covers items words symbols = (c : ℕ) → IsScalar c → (d : ℕ) × Has symbols d × StandsFor items words d c

-- the list holds all characters of these items and texts
pub record HasLetters (items : List Item) (words : List (List ℕ)) (letters : List ℕ) : Type 0 where
  pub of_items : (c : ℕ) → Has items (Char c) → Has letters c
  pub of_words : (w : List ℕ) → Has words w → (c : ℕ) → Has w c → Has letters c

-- the new list holds all characters of the old one
abbrev pub AreAmong : List ℕ → List ℕ → Type 0
AreAmong old new = (c : ℕ) → Has old c → Has new c

-- the list holds the character of an item too
pub record IsNoted (old new : List ℕ) (item : Item) : Type 0 where
  pub kept : AreAmong old new
  pub noted : (c : ℕ) → item ≡ Char c → Has new c

-- ---- excluded texts

-- the text is a prefix of an excluded one
abbrev pub IsOn : List (List ℕ) → List ℕ → Type 0
IsOn words text = (rest : List ℕ) × Has words (text ++ rest)

-- the text is a prefix of no excluded one
abbrev pub IsOff : List (List ℕ) → List ℕ → Type 0
IsOff words text = (rest : List ℕ) → ¬ (Has words (text ++ rest))

-- the first is a prefix of the second
abbrev pub begins : List ℕ → List ℕ → Bool
begins [] whole = true
begins (c ∷ word) [] = false
begins (c ∷ word) (d ∷ whole) = (d == c) && begins word whole

-- the test for a prefix of an excluded text
abbrev pub is_on : List (List ℕ) → List ℕ → Bool
is_on [] word = false
is_on (w ∷ words) word = begins word w || is_on words word

-- the test for an excluded text
abbrev pub is_one : List (List ℕ) → List ℕ → Bool
is_one [] word = false
is_one (w ∷ words) word = (begins word w && begins w word) || is_one words word

-- ---- the queue

-- from these marks no text gives each pattern its sign
abbrev pub IsDead : List Item → List Bool → Type 0
IsDead items marks = (text : List ℕ) → completes items marks false text ≡ false

abbrev pub IsMet : List Item → List Entry → List Bool → Type 0
IsMet items es marks = Has (places_of es) marks ⊎ IsDead items marks

-- one character more: the marks are in the queue or dead, or the text is a prefix of an excluded one, or they are
-- appended
abbrev pub IsStepped : List Item → List (List ℕ) → List Bool → List ℕ → ℕ → List Entry → List Entry → Type 0
IsStepped items words marks word d old new =
    ((new ≡ old) × (IsOn words (word ++ d ∷ []) ⊎ IsMet items old (step d false false items marks)))
    ⊎ ((new ≡ old ++ (step d false false items marks, word ++ d ∷ []) ∷ [])
    × (accepts false items (step d false false items marks) ≡ false) × IsOff words (word ++ d ∷ []))

-- an entry: its text leads to its marks, isn't sought, and is a prefix of no excluded text
pub record IsEntry (items : List Item) (words : List (List ℕ)) (e : Entry) : Type 0 where
  pub is_text : IsText e.1
  pub leads : (text : List ℕ) → completes items e.0 false text ≡ obeys items (e.1 ++ text)
  pub quiet : accepts false items e.0 ≡ false
  pub off : IsOff words e.1

-- After an entry was followed, the marks behind each character of the alphabet are in the queue or dead, or the text
-- is a prefix of an excluded one; no appended text is sought.
pub record IsFollowed (items : List Item) (symbols : List ℕ) (words : List (List ℕ)) (marks : List Bool)
    (word : List ℕ) (old new : List Entry) : Type 0 where
  pub longer : (more : List Entry) × (new ≡ old ++ more)
  pub only : (e : Entry) → Has new e → Has old e
      ⊎ ((d : ℕ) × IsScalar d × (accepts false items (step d false false items marks) ≡ false)
      × (e ≡ (step d false false items marks, word ++ d ∷ [])) × IsOff words (word ++ d ∷ []))
  pub all : (d : ℕ) → Has symbols d → IsOn words (word ++ d ∷ []) ⊎ IsMet items new (step d false false items marks)

-- one character more gives a text that is sought
pub record IsEnd (items : List Item) (words : List (List ℕ)) (marks : List Bool) (word found : List ℕ) : Type 0 where
  pub last : ℕ
  pub scalar : IsScalar last
  pub ends : accepts false items (step last false false items marks) ≡ true
  pub is : found ≡ word ++ last ∷ []
  pub off : IsOff words found

-- a text that is sought
pub record IsFound (items : List Item) (words : List (List ℕ)) (found : List ℕ) : Type 0 where
  pub is_text : IsText found
  pub obeyed : obeys items found ≡ true
  pub other : ¬ (Has words found)

-- a text was visited: if it gives each pattern its sign it is excluded, and the marks behind it are in the queue
pub record IsVisited (items : List Item) (symbols : List ℕ) (words : List (List ℕ)) (es : List Entry)
    (word : List ℕ) : Type 0 where
  pub marks : List Bool
  pub leads : (text : List ℕ) → completes items marks false text ≡ obeys items (word ++ text)
  pub known : accepts false items marks ≡ true → Has words word
  pub met : (d : ℕ) → Has symbols d → IsOn words (word ++ d ∷ []) ⊎ IsMet items es (step d false false items marks)

-- all its prefixes shorter than n were visited
abbrev pub IsWalkedTo : List Item → List ℕ → List (List ℕ) → List Entry → List ℕ → ℕ → Type 0
IsWalkedTo items symbols words es whole n = (k : ℕ) → k < n → IsVisited items symbols words es (take k whole)

-- the queue, when the prefixes of these excluded texts were visited
pub record AreEntries (items : List Item) (symbols : List ℕ) (words front : List (List ℕ))
    (es : List Entry) : Type 0 where
  pub entries : (e : Entry) → Has es e → IsEntry items words e
  pub first : IsVisited items symbols words es []
  pub walked : (w : List ℕ) → Has front w → IsWalkedTo items symbols words es w (length w + 1)

-- the prefixes of a text shorter than n are visited now
pub record IsWalk (items : List Item) (symbols : List ℕ) (words : List (List ℕ)) (old new : List Entry)
    (whole : List ℕ) (n : ℕ) : Type 0 where
  pub longer : (more : List Entry) × (new ≡ old ++ more)
  pub entries : (e : Entry) → Has new e → IsEntry items words e
  pub walked : IsWalkedTo items symbols words new whole n

-- a text leads to these marks
pub record IsAt (items : List Item) (marks : List Bool) (word : List ℕ) : Type 0 where
  pub is_text : IsText word
  pub leads : (text : List ℕ) → completes items marks false text ≡ obeys items (word ++ text)

-- the first i entries of the queue were followed
pub record IsSearch (items : List Item) (symbols : List ℕ) (words : List (List ℕ)) (es : List Entry)
    (i : ℕ) : Type 0 where
  pub are : AreEntries items symbols words words es
  pub done : (e : Entry) → Has (take i es) e → (d : ℕ) → Has symbols d → IsMet items es (step d false false items e.0)

-- ---- the texts that were found

pub record AreSoFar (patterns : List (List Part)) (signs : List Bool) (words : List (List ℕ)) : Type 0 where
  pub texts_are : (text : List ℕ) → Has words text → IsText text
  pub obey : (text : List ℕ) → Has words text → Obeys patterns signs text
  pub distinct : AreDistinct words
