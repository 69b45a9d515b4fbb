-- The strings and keys among the tokens of a JSON text in UTF-8 are UTF-8.
use Rattle.std.proofs.Common.{◌≡◌, ◌∙◌, ℕ, ◌+◌, ◌<◌, List, [], ◌∷◌, ◌++◌, append_assoc, Bool, true, false, ◌==◌, cond, Option, Some, None, IsUtf8, length, drop, get_or, refl, sym, ap, subst, arith}
use Rattle.std.specs.Prelude.{⊤}
use Rattle.std.specs.List.{AllByRecursion}
use Rattle.std.proofs.lemmas.Bool.{cond_both, eqb-true}
use Rattle.std.proofs.lemmas.List.{get_or_at, length-append, length_push, drop_at}
use Rattle.std.proofs.lemmas.Str.{IsUtf8-drop, IsCharBoundary-after_ascii}
use Rattle.json.specs.Token.{Token, begin_object, end_object, begin_array, end_array, key, string, number, boolean, null, bad}
use Rattle.json.specs.Text.{content, plain}
use Rattle.json.specs.Word.{head, ends_word, after_number, number_before, is_operator, is_space, word}
use Rattle.json.specs.Lex.{Lexeme, token, comma, colon, Class, quote, backslash, operator, space, other, class, operator_lexeme, string_token, Mode, between, in_word, in_string, in_escape, lex_byte, lex}
use Rattle.json.specs.Lex.{Place, fresh, after_value, after_comma, after_key, begins_colon, may_begin, may_close, if_allowed, place_token, punctuate, tokens}
use Rattle.sc_json.proofs.StringsLaws.{IfText, string_text}

-- the string or key that a token is, is UTF-8
abbrev pub HasText : Token → Type 0
HasText begin_object = ⊤
HasText end_object = ⊤
HasText begin_array = ⊤
HasText end_array = ⊤
HasText (key s) = IsUtf8 s
HasText (string s) = IsUtf8 s
HasText (number s) = ⊤
HasText (boolean b) = ⊤
HasText null = ⊤
HasText bad = ⊤

abbrev pub HaveTexts : List Token → Type 0
HaveTexts = AllByRecursion HasText

abbrev LexemeHasText : Lexeme → Type 0
LexemeHasText (token t) = HasText t
LexemeHasText comma = ⊤
LexemeHasText colon = ⊤

abbrev Lexemes : List Lexeme → Type 0
Lexemes = AllByRecursion LexemeHasText

-- ---- what no string is

one_of : (b : Bool) (x y : Token) → HasText x → HasText y → HasText (cond b x y)
one_of true x y p q = p
one_of false x y p q = q

numbers : (t : List ℕ) (o : Option (List ℕ)) → HasText (number_before t o)
numbers t None = tt
numbers t (Some rest) = one_of (ends_word rest) _ bad tt tt

words : (t : List ℕ) → HasText (word t)
unfolding word
words t =
    one_of (head t == 116) _ _ (one_of _ (boolean true) bad tt tt) (one_of (head t == 102) _ _ (one_of _ (boolean false) bad tt tt)
    (one_of (head t == 110) _ _ (one_of _ null bad tt tt) (numbers t (after_number t))))

mark : (b : Bool) (x y : Lexeme) → LexemeHasText x → LexemeHasText y → LexemeHasText (cond b x y)
mark true x y p q = p
mark false x y p q = q

marks : (x : ℕ) → LexemeHasText (operator_lexeme x)
marks x =
    mark (x == 123) (token begin_object) _ tt (mark (x == 125) (token end_object) _ tt (mark (x == 91) (token begin_array) _ tt (mark (x == 93) (token end_array) _ tt (mark (x == 44) comma colon tt tt))))

-- ---- the lexer

-- the bytes end a text in UTF-8
abbrev Ends : List ℕ → Type 0
Ends xs = (front : List ℕ) × IsUtf8 (front ++ xs)

next_ends : (x : ℕ) (xs : List ℕ) → Ends (x ∷ xs) → Ends xs
next_ends x xs e = (e.0 ++ x ∷ [], subst IsUtf8 (sym (append_assoc e.0 (x ∷ []) xs)) e.1)

-- what follows an ASCII byte is a text
past_byte : (front : List ℕ) (x : ℕ) (xs : List ℕ) → x < 128 → IsUtf8 (front ++ x ∷ xs) → IsUtf8 xs
past_byte front x xs low t =
    let bytes = front ++ x ∷ xs in
    let here : get_or bytes (length front) 0 ≡ x = get_or_at front x xs 0 (length front) refl in
    let inside : length front < length bytes = omega (arith, length-append front (x ∷ xs)) in
    let after : drop (length front + 1) bytes ≡ xs =
    ap (drop (length front + 1)) (sym (append_assoc front (x ∷ []) xs)) ∙ drop_at (front ++ x ∷ []) xs (length front + 1) (length_push front x) in
    subst IsUtf8 after (IsUtf8-drop bytes (length front + 1) t (IsCharBoundary-after_ascii bytes (length front) t inside (omega arith)))

is_quote : (x : ℕ) → class x ≡ quote → x ≡ 34
is_quote x =
    let no : (c : Class) → (c ≡ quote → ⊥) → c ≡ quote → x ≡ 34 = λ c h e. absurd (h e) in
    cond_both (x == 34) quote _ (λ c. c ≡ quote → x ≡ 34) (λ e _. eqb-true x 34 e)
    (λ _. cond_both (x == 92) backslash _ (λ c. c ≡ quote → x ≡ 34) (λ _. no backslash (λ e. cc))
    (λ _. cond_both (is_operator x) operator _ (λ c. c ≡ quote → x ≡ 34) (λ _. no operator (λ e. cc))
    (λ _. cond_both (is_space x) space other (λ c. c ≡ quote → x ≡ 34) (λ _. no space (λ e. cc)) (λ _. no other (λ e. cc)))))

strings : (o : Option (List ℕ)) → IfText o → HasText (string_token o)
strings None t = tt
strings (Some s) t = t

byte : (m : Mode) (c : Class) (x : ℕ) (xs : List ℕ) (k : Mode → List Lexeme) → class x ≡ c → Ends (x ∷ xs) → ((n : Mode) → Lexemes (k n)) → Lexemes (lex_byte m c x xs k)
byte between quote x xs k e t h = let same = is_quote x e in (strings (content plain xs) (string_text xs (past_byte t.0 x xs (omega arith) t.1)), h in_string)
byte between backslash x xs k e t h = (tt, h in_word)
byte between operator x xs k e t h = (marks x, h between)
byte between space x xs k e t h = h between
byte between other x xs k e t h = (words (x ∷ xs), h in_word)
byte in_word quote x xs k e t h = h in_word
byte in_word backslash x xs k e t h = h in_word
byte in_word operator x xs k e t h = (marks x, h between)
byte in_word space x xs k e t h = h between
byte in_word other x xs k e t h = h in_word
byte in_string quote x xs k e t h = h between
byte in_string backslash x xs k e t h = h in_escape
byte in_string operator x xs k e t h = h in_string
byte in_string space x xs k e t h = h in_string
byte in_string other x xs k e t h = h in_string
byte in_escape c x xs k e t h = h in_string

Lexemes-lex : (xs : List ℕ) → Ends xs → (m : Mode) → Lexemes (lex m xs)
unfolding lex
Lexemes-lex [] t m = tt
Lexemes-lex (x ∷ xs) t m = byte m (class x) x xs (λ n. lex n xs) refl t (Lexemes-lex xs (next_ends x xs t))

-- ---- commas and colons

allowed : (b : Bool) (t : Token) (k : Place → List Token) (next : Place) → HasText t → HaveTexts (k next) → HaveTexts (if_allowed b t k next)
allowed true t k next p q = (p, q)
allowed false t k next p q = (tt, tt)

placed : (p : Place) (t : Token) (b : Bool) (k : Place → List Token) → HasText t → ((n : Place) → HaveTexts (k n)) → HaveTexts (place_token p t b k)
placed p begin_object b k q h = allowed (may_begin p) begin_object k fresh q (h fresh)
placed p end_object b k q h = allowed (may_close p) end_object k after_value q (h after_value)
placed p begin_array b k q h = allowed (may_begin p) begin_array k fresh q (h fresh)
placed p end_array b k q h = allowed (may_close p) end_array k after_value q (h after_value)
placed p (key s) b k q h = (tt, tt)
placed p (string s) true k q h = allowed (may_begin p) (key s) k after_key q (h after_key)
placed p (string s) false k q h = allowed (may_begin p) (string s) k after_value q (h after_value)
placed p (number s) b k q h = allowed (may_begin p) (number s) k after_value q (h after_value)
placed p (boolean v) b k q h = allowed (may_begin p) (boolean v) k after_value q (h after_value)
placed p null b k q h = allowed (may_begin p) null k after_value q (h after_value)
placed p bad b k q h = (tt, tt)

punctuated : (ls : List Lexeme) → Lexemes ls → (p : Place) → HaveTexts (punctuate p ls)
unfolding punctuate
punctuated [] h fresh = tt
punctuated [] h after_value = tt
punctuated [] h after_comma = (tt, tt)
punctuated [] h after_key = (tt, tt)
punctuated (token t ∷ ls) h p = placed p t (begins_colon ls) (λ n. punctuate n ls) h.0 (punctuated ls h.1)
punctuated (comma ∷ ls) h fresh = (tt, tt)
punctuated (comma ∷ ls) h after_value = punctuated ls h.1 after_comma
punctuated (comma ∷ ls) h after_comma = (tt, tt)
punctuated (comma ∷ ls) h after_key = (tt, tt)
punctuated (colon ∷ ls) h fresh = (tt, tt)
punctuated (colon ∷ ls) h after_value = (tt, tt)
punctuated (colon ∷ ls) h after_comma = (tt, tt)
punctuated (colon ∷ ls) h after_key = punctuated ls h.1 fresh

pub tokens_texts : (bytes : List ℕ) → IsUtf8 bytes → HaveTexts (tokens bytes)
tokens_texts bytes t = punctuated (lex between bytes) (Lexemes-lex bytes ([], t) between) fresh
