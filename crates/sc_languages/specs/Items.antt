-- The automaton that reads several patterns at once. Its states are one list of items: the parts of each pattern, and
-- then its end with the sign that is wanted. What was read of a text is a mark for each item: whether it is active,
-- so that the rest of the text may go on there.
use Rattle.std.specs.Prelude.{◌==◌, ◌&&◌, ◌||◌, ℕ, List, [], ◌∷◌, Bool, true, false, not, cond}
use Rattle.sc_pattern.specs.declared.part.Part.{Part}
use Rattle.sc_pattern.specs.declared.part.Part.TheVariants.{Star as any_characters, Char as this_character}
use Rattle.sc_pattern.specs.Language.{is_end, behind, somewhere}
use Rattle.sc_languages.specs.declared.item.Item.{Item}
use Rattle.sc_languages.specs.declared.item.Item.TheVariants.{Star, Char, End}

-- ---- patterns as items

abbrev pub part_item : Part → Item
part_item any_characters = Star
part_item (this_character c) = Char c

-- the items of a pattern, in front of others
abbrev pub with_pattern : List Part → Bool → List Item → List Item
with_pattern [] sign rest = End sign ∷ rest
with_pattern (part ∷ parts) sign rest = part_item part ∷ with_pattern parts sign rest

abbrev pub items_of : List (List Part) → List Bool → List Item
items_of [] signs = []
items_of (p ∷ ps) [] = []
items_of (p ∷ ps) (sign ∷ signs) = with_pattern p sign (items_of ps signs)

-- ---- what an item says

abbrev pub is_end_item : Item → Bool
is_end_item Star = false
is_end_item (Char c) = false
is_end_item (End sign) = true

-- whether an item is active after a character: it was reached from the item before, or it is an active star
abbrev pub stays : Item → Bool → Bool → Bool
stays Star active reached = reached || active
stays (Char d) active reached = reached
stays (End sign) active reached = reached

-- whether the next item is active after a character, by this one
abbrev pub reaches : Item → ℕ → Bool → Bool → Bool
reaches Star c active reached = reached || active
reaches (Char d) c active reached = active && (c == d)
reaches (End sign) c active reached = false

-- whether the next item is active too, without a character
abbrev pub skips : Item → Bool → Bool
skips Star active = active
skips (Char d) active = false
skips (End sign) active = false

-- a text that ends here denies the pattern its sign
abbrev pub refuses : Item → Bool → Bool
refuses Star active = false
refuses (Char d) active = false
refuses (End sign) active = cond sign (not active) active

abbrev pub is_star_item : Item → Bool
is_star_item Star = true
is_star_item (Char c) = false
is_star_item (End sign) = false

-- the pattern that ends here can't get its sign any more: `any` is whether one of its items is active, `star` whether
-- its last one is an active star
abbrev pub dies : Item → Bool → Bool → Bool
dies Star any star = false
dies (Char c) any star = false
dies (End sign) any star = cond sign (not any) star

-- what is known of a pattern as the next item begins: at its end nothing
abbrev pub kept : Item → Bool → Bool
kept Star known = known
kept (Char c) known = known
kept (End sign) known = false

-- ---- reading a text

-- before the first character each pattern's first item is active
abbrev pub start : Bool → List Item → List Bool
start first [] = []
start first (x ∷ items) = first ∷ start (is_end_item x) items

-- one character is read; `reached` and `skipped` say whether the item before makes this one active, with the
-- character or without
abbrev pub step : ℕ → Bool → Bool → List Item → List Bool → List Bool
step c reached skipped [] marks = []
step c reached skipped (x ∷ items) [] = []
step c reached skipped (x ∷ items) (b ∷ marks) =
    stays x (b || skipped) reached ∷ step c (reaches x c (b || skipped) reached) (skips x (b || skipped)) items marks

-- the text ends here, and each pattern has its sign
abbrev pub accepts : Bool → List Item → List Bool → Bool
accepts skipped [] marks = true
accepts skipped (x ∷ items) [] = true
accepts skipped (x ∷ items) (b ∷ marks) = not (refuses x (b || skipped)) && accepts (skips x (b || skipped)) items marks

-- some pattern can't get its sign any more; `any` is whether one of its items before is active, `star` whether the
-- last of these is an active star
abbrev pub is_dead : Bool → Bool → List Item → List Bool → Bool
is_dead any star [] marks = false
is_dead any star (x ∷ items) [] = false
is_dead any star (x ∷ items) (b ∷ marks) =
    dies x (any || b) star || is_dead (kept x (any || b)) (is_star_item x && b) items marks

-- ---- what the automaton means

-- the text matches the pattern whose rest these items begin with
abbrev pub fits : List Item → List ℕ → Bool
fits [] text = false
fits (Star ∷ items) text = somewhere (fits items) text
fits (Char c ∷ items) text = behind c (fits items) text
fits (End sign ∷ items) text = is_end text

-- The rest of a text gives each pattern its sign, from the active items on; `known` is whether the pattern of the
-- first item matches by an earlier item already.
abbrev pub completes : List Item → List Bool → Bool → List ℕ → Bool
completes [] marks known text = true
completes (x ∷ items) [] known text = true
completes (x ∷ items) (b ∷ marks) known text =
    not (refuses x (known || (b && fits (x ∷ items) text)))
    && completes items marks (kept x (known || (b && fits (x ∷ items) text))) text

-- a whole text gives each pattern its sign
abbrev pub obeys : List Item → List ℕ → Bool
obeys items text = completes items (start true items) false text
