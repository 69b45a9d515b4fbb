-- The rules of strings and of the patterns that they match.
use Rattle.std.specs.Prelude.{◌≡◌, ◌&&◌, ◌==◌, ◌<◌, ◌++◌, ◌↔◌, ⊤, ℕ, Bool, true, false, IsTrue, List, [], ◌∷◌, map, length, Option, Some, None, slice_get, if◌then◌else◌, refl}
use Rattle.std.specs.List.{AllByRecursion, flat_map, list_all}
use Rattle.sc_pattern.specs.declared.part.Part.{Part}
use Rattle.sc_pattern.specs.Language.{IsMatch}
use Rattle.sc_languages.specs.Strings.{IsText, AreDistinct}
use Rattle.sc_sorts.specs.declared.node.UnaryOp.TheVariants.{Like}
use Rattle.sc_terms.specs.Trees.{Tree, one}
use Rattle.sc_terms.specs.Folds.{equal_term, like_term}
use Rattle.sc_rule_laws.specs.Signed.{Signed, Said, so, unless, given}
use Rattle.sc_rule_laws.specs.Terms.{is_string}

abbrev pub Pattern : Type 0
Pattern = List Part

-- the pattern of which a term asks whether a string matches it
abbrev pub asked_of : Tree → Option Pattern
asked_of (one (Like q) t) = Some q
asked_of _ = None

-- a sign for each pattern: it matches, it doesn't, or it isn't asked
abbrev pub Signs : Type 0
Signs = List (Option Bool)

-- ST1: equal strings match the same patterns
abbrev pub st1_of : Tree → Tree → Option Pattern → Said
st1_of a b (Some q) = Some (unless (equal_term a b) ∷ unless (like_term a q) ∷ so (like_term b q) ∷ [])
st1_of a b None = None

abbrev pub st1 : List Pattern → Tree → Tree → ℕ → Said
st1 qs a b i = st1_of a b (slice_get qs i)

-- ---- counting: strings can't all be told apart where there are fewer texts with their signs

-- a text has the sign of a pattern, if it is asked
abbrev pub HasSign : Pattern → Option Bool → List ℕ → Type 0
HasSign q None text = ⊤
HasSign q (Some sign) text = IsTrue sign ↔ IsMatch q text

-- and so of each pattern
unfoldable pub HasSigns : List Pattern → Signs → List ℕ → Type 0
HasSigns [] v text = ⊤
HasSigns (q ∷ qs) [] text = ⊤
HasSigns (q ∷ qs) (sign ∷ v) text = HasSign q sign text × HasSigns qs v text

-- fewer than n texts have the signs: no n are distinct
unfoldable pub AreFew : List Pattern → Signs → ℕ → Type 0
AreFew qs v n = (texts : List (List ℕ)) → AreDistinct texts
    → AllByRecursion (λ text. IsText text × HasSigns qs v text) texts → length texts < n

-- a string has the other sign of a pattern, if it is asked
abbrev pub other_sign : Tree → Pattern → Option Bool → List Signed
other_sign t q None = []
other_sign t q (Some true) = unless (like_term t q) ∷ []
other_sign t q (Some false) = so (like_term t q) ∷ []

-- of some pattern
abbrev pub other_signs : List Pattern → Signs → Tree → List Signed
other_signs [] v t = []
other_signs (q ∷ qs) [] t = []
other_signs (q ∷ qs) (sign ∷ v) t = other_sign t q sign ++ other_signs qs v t

-- two of the strings are equal
abbrev pub some_equal : List Tree → List Signed
some_equal [] = []
some_equal (t ∷ ts) = map (λ u. so (equal_term t u)) ts ++ some_equal ts

-- some string has another sign, or two are equal
abbrev pub crowd : List Pattern → Signs → List Tree → List Signed
crowd qs v ts = flat_map (other_signs qs v) ts ++ some_equal ts

-- each pattern has a sign, and all are strings
abbrev pub st3 : List Pattern → Signs → List Tree → Said
st3 qs v ts = given ((length v == length qs) && list_all is_string ts) (crowd qs v ts)

-- ST2 is ST3 where each pattern is asked
abbrev pub is_asked_all : Signs → Bool
is_asked_all [] = true
is_asked_all (None ∷ v) = false
is_asked_all (Some sign ∷ v) = is_asked_all v

abbrev pub st2 : List Pattern → Signs → List Tree → Said
st2 qs v ts = if is_asked_all v then st3 qs v ts else None

-- ---- worked rows

pub st1_second : (a b : Tree) (q r : Pattern)
    → st1 (q ∷ r ∷ []) a b 1 ≡ Some (unless (equal_term a b) ∷ unless (like_term a r) ∷ so (like_term b r) ∷ [])
st1_second a b q r = refl

-- two strings, of which the first pattern is matched and the second isn't asked
pub crowd_of_two : (a b : Tree) (q r : Pattern)
    → crowd (q ∷ r ∷ []) (Some true ∷ None ∷ []) (a ∷ b ∷ [])
    ≡ unless (like_term a q) ∷ unless (like_term b q) ∷ so (equal_term a b) ∷ []
crowd_of_two a b q r = refl

pub st2_asks_all : (qs : List Pattern) (ts : List Tree) → st2 qs (None ∷ []) ts ≡ None
st2_asks_all qs ts = refl
