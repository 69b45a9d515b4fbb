-- The words of a line are read back.
use Rattle.std.proofs.Common.{◌≡◌, ◌⊎◌, ◌<◌, ◌≤◌, ◌==◌, ℕ, zero, suc, Bool, true, false, not, ◌&&◌, ◌||◌, cond, List, [], ◌∷◌, ◌++◌, length, refl, sym, ap, ◌∙◌, subst, inl, inr, append_assoc, append-nil, arith}
use Rattle.std.specs.Prelude.{bytes_eq, flat_map, codes}
use Rattle.std.specs.List.{list_all}
use Rattle.std.proofs.lemmas.Bool.{and_parts, and_from, or_cases, not-true, ne_eqb}
use Rattle.std.proofs.lemmas.Slice.Eq.{bytes_eq-Decides}
use Rattle.sc_smtlib_words.specs.Cut.{lacks}
use Rattle.sc_smtlib_words.specs.Words.{Word, Mode, IsDoubled, none, doubled, other, IsWord, opening, closing, plain_word, bars, quoted, AreWords, open_word, close_word, is_special, is_plain_byte, is_plain, gap, rest_of, spelled, between, in_word, in_bars, in_text, at_quote, words_from, words, last_word, ended, next_mode, so_far, alone}

pub or_false : (a b : Bool) → (a || b) ≡ false → (a ≡ false) × (b ≡ false)
or_false true b e = cc
or_false false b e = (refl, e)

-- a text goes on where it ends or has a space or a parenthesis
abbrev pub Stops : List ℕ → Type 0
Stops [] = Unit {0}
Stops (b ∷ bs) = is_special b ≡ true

plain_special : (b : ℕ) → is_plain_byte b ≡ true → is_special b ≡ false
plain_special b e = (or_false (is_special b) _ (not-true _ e)).0

plain_quote : (b : ℕ) → is_plain_byte b ≡ true → ((b == 34) ≡ false) × ((b == 124) ≡ false)
plain_quote b e =
    let rest = (or_false (is_special b) _ (not-true _ e)).1 in
    let more = or_false (b == 34) _ rest in
    (more.0, (or_false (b == 124) _ more.1).0)

-- a space and a parenthesis are no quotes
special_quote : (b : ℕ) → is_special b ≡ true → (b == 34) ≡ false
special_quote b e = ne_eqb b 34 (λ q. let t : false ≡ true = ap is_special (sym q) ∙ e in cc)

-- ---- a plain word

special_between : (b : ℕ) (bs : List ℕ) → is_special b ≡ true → words_from between [] (b ∷ bs) ≡ alone b ++ words_from between [] bs
special_between b bs e = rw e refl

word_stops : (now r : List ℕ) → Stops r → words_from in_word now r ≡ now ∷ words_from between [] r
word_stops now [] h = refl
word_stops now (b ∷ bs) h = rw h refl

word_goes : (w now r : List ℕ) → list_all is_plain_byte w ≡ true → Stops r → words_from in_word now (w ++ r) ≡ (now ++ w) ∷ words_from between [] r
word_goes [] now r e h = word_stops now r h ∙ ap (λ n. n ∷ words_from between [] r) (sym (append-nil now))
word_goes (b ∷ w) now r e h =
    let both = and_parts (is_plain_byte b) (list_all is_plain_byte w) e in
    let s = plain_special b both.0 in
    rw s (word_goes w (now ++ b ∷ []) r both.1 h ∙ ap (λ n. n ∷ words_from between [] r) (append_assoc now (b ∷ []) w))

not_alone : (b : ℕ) → is_special b ≡ false → alone b ≡ []
not_alone b e = let f = (or_false (b == 32) (b == 40 || b == 41) e).1 in rw f refl

plain_read : (w r : List ℕ) → is_plain w ≡ true → Stops r → words_from between [] (w ++ r) ≡ w ∷ words_from between [] r
plain_read [] r e h = cc
plain_read (b ∷ w) r e h =
    let both = and_parts (is_plain_byte b) (list_all is_plain_byte w) e in
    let s = plain_special b both.0 in let q = plain_quote b both.0 in let a = not_alone b s in
    rw (a, s, q.1, q.0) (word_goes w (b ∷ []) r both.1 h)

not_open : (w : Word) → is_plain w ≡ true → bytes_eq w open_word ≡ true → ⊥
not_open w e o = let t : false ≡ true = ap is_plain (sym ((bytes_eq-Decides w open_word).0 o)) ∙ e in cc

-- ---- a word in bars

bars_go : (w now r : List ℕ) → lacks 124 w ≡ true → words_from in_bars now (w ++ 124 ∷ r) ≡ (now ++ (w ++ 124 ∷ [])) ∷ words_from between [] r
bars_go [] now r e = refl
bars_go (b ∷ w) now r e =
    let both = and_parts (not (b == 124)) (lacks 124 w) e in
    let n = not-true (b == 124) both.0 in
    rw n (bars_go w (now ++ b ∷ []) r both.1 ∙ ap (λ x. x ∷ words_from between [] r) (append_assoc now (b ∷ []) (w ++ 124 ∷ [])))

bars_read : (w r : List ℕ) → lacks 124 w ≡ true → words_from between [] ((124 ∷ (w ++ 124 ∷ [])) ++ r) ≡ (124 ∷ (w ++ 124 ∷ [])) ∷ words_from between [] r
bars_read w r e = ap (words_from in_bars (124 ∷ [])) (append_assoc w (124 ∷ []) r) ∙ bars_go w (124 ∷ []) r e

-- ---- a text

quote_stops : (now r : List ℕ) → Stops r → words_from at_quote now r ≡ now ∷ words_from between [] r
quote_stops now [] h = refl
quote_stops now (b ∷ bs) h = let q = special_quote b h in rw (h, q) refl

text_goes : (w now r : List ℕ) → IsDoubled w → Stops r → words_from in_text now (w ++ 34 ∷ r) ≡ (now ++ (w ++ 34 ∷ [])) ∷ words_from between [] r
text_goes w now r none h = quote_stops (now ++ 34 ∷ []) r h
text_goes w now r (doubled {bs} d) h =
    text_goes bs ((now ++ 34 ∷ []) ++ 34 ∷ []) r d h
    ∙ ap (λ x. x ∷ words_from between [] r) (append_assoc (now ++ 34 ∷ []) (34 ∷ []) (bs ++ 34 ∷ []) ∙ append_assoc now (34 ∷ []) (34 ∷ (bs ++ 34 ∷ [])))
text_goes w now r (other {b} {bs} n d) h =
    rw n (text_goes bs (now ++ b ∷ []) r d h ∙ ap (λ x. x ∷ words_from between [] r) (append_assoc now (b ∷ []) (bs ++ 34 ∷ [])))

text_read : (w r : List ℕ) → IsDoubled w → Stops r → words_from between [] ((34 ∷ (w ++ 34 ∷ [])) ++ r) ≡ (34 ∷ (w ++ 34 ∷ [])) ∷ words_from between [] r
text_read w r d h = ap (words_from in_text (34 ∷ [])) (append_assoc w (34 ∷ []) r) ∙ text_goes w (34 ∷ []) r d h

-- ---- all words of a line

-- a word and what follows it
word_read : (w r : List ℕ) → IsWord w → (bytes_eq w open_word ≡ true) ⊎ Stops r → words_from between [] (w ++ r) ≡ w ∷ words_from between [] r
word_read w r opening h = refl
word_read w r closing h = refl
word_read w r (plain_word e) (inr h) = plain_read w r e h
word_read w r (plain_word e) (inl o) = absurd (not_open w e o)
word_read w r (bars v e f) h = bars_read v r e
word_read w r (quoted v d f) (inr h) = text_read v r d h
word_read w r (quoted v d f) (inl o) = absurd cc

closed_stops : (u : Word) (us : List Word) → bytes_eq u close_word ≡ true → Stops (u ++ rest_of u us)
closed_stops u us e = subst (λ z. Stops (z ++ rest_of u us)) (sym ((bytes_eq-Decides u close_word).0 e)) refl

gap_then : (t u : Word) (us : List Word) (o c : Bool) → bytes_eq t open_word ≡ o → bytes_eq u close_word ≡ c → (bytes_eq t open_word ≡ true) ⊎ Stops (cond (o || c) [] (32 ∷ []) ++ (u ++ rest_of u us))
gap_then t u us true c e f = inl e
gap_then t u us false true e f = inr (closed_stops u us f)
gap_then t u us false false e f = inr refl

gap_read : (b : Bool) (r : List ℕ) → words_from between [] (cond b [] (32 ∷ []) ++ r) ≡ words_from between [] r
gap_read true r = refl
gap_read false r = refl

rest_read : (t : Word) (ts : List Word) → IsWord t → AreWords ts → words_from between [] (t ++ rest_of t ts) ≡ t ∷ ts
rest_read t [] h hs = word_read t [] h (inr tt)
rest_read t (u ∷ us) h hs =
    word_read t (rest_of t (u ∷ us)) h (gap_then t u us (bytes_eq t open_word) (bytes_eq u close_word) refl refl)
    ∙ ap (λ ws. t ∷ ws) (gap_read (bytes_eq t open_word || bytes_eq u close_word) (u ++ rest_of u us) ∙ rest_read u us hs.0 hs.1)

pub words_again : (ts : List Word) → AreWords ts → words (spelled ts) ≡ ts
unfolding words spelled
words_again [] h = refl
words_again (t ∷ ts) h = rest_read t ts h.0 h.1

-- ---- a line has no newline

pub lacks_append : (b : ℕ) (xs ys : List ℕ) → lacks b xs ≡ true → lacks b ys ≡ true → lacks b (xs ++ ys) ≡ true
lacks_append b [] ys e f = f
lacks_append b (x ∷ xs) ys e f = let both = and_parts (not (x == b)) (lacks b xs) e in and_from (not (x == b)) (lacks b (xs ++ ys)) both.0 (lacks_append b xs ys both.1 f)

plain_lacks : (w : List ℕ) → list_all is_plain_byte w ≡ true → lacks 10 w ≡ true
plain_lacks [] e = refl
plain_lacks (b ∷ w) e =
    let both = and_parts (is_plain_byte b) (list_all is_plain_byte w) e in
    let n : (b == 10) ≡ false = ne_eqb b 10 (λ q. let t : false ≡ true = ap is_plain_byte (sym q) ∙ both.0 in cc) in
    rw n (plain_lacks w both.1)

word_lacks : (w : Word) → IsWord w → lacks 10 w ≡ true
word_lacks w opening = refl
word_lacks w closing = refl
word_lacks w (plain_word e) = whole w e
  where
    whole : (w : Word) → is_plain w ≡ true → lacks 10 w ≡ true
    whole [] e = cc
    whole (b ∷ w) e = plain_lacks (b ∷ w) e
word_lacks w (bars v e f) = lacks_append 10 v (124 ∷ []) f refl
word_lacks w (quoted v d f) = lacks_append 10 v (34 ∷ []) f refl

gap_lacks : (b : Bool) → lacks 10 (cond b [] (32 ∷ [])) ≡ true
gap_lacks true = refl
gap_lacks false = refl

rest_lacks : (t : Word) (ts : List Word) → AreWords ts → lacks 10 (rest_of t ts) ≡ true
rest_lacks t [] h = refl
rest_lacks t (u ∷ us) h =
    lacks_append 10 (gap t u) (u ++ rest_of u us) (gap_lacks (bytes_eq t open_word || bytes_eq u close_word)) (lacks_append 10 u (rest_of u us) (word_lacks u h.0) (rest_lacks u us h.1))

pub words_lack : (ts : List Word) → AreWords ts → lacks 10 (spelled ts) ≡ true
unfolding spelled
words_lack [] h = refl
words_lack (t ∷ ts) h = lacks_append 10 t (rest_of t ts) (word_lacks t h.0) (rest_lacks t ts h.1)
