-- Places tell what a path is.
use Rattle.std.proofs.Common.{◌≡◌, ℕ, ◌==◌, ◌&&◌, List, [], ◌∷◌, ◌++◌, Bool, true, false, refl, ◌∙◌, ap, subst, append_assoc, append-nil, eqb-true, nat_eq}
use Rattle.std.specs.Prelude.{codes, not, if◌then◌else◌}
use Rattle.std.specs.List.{list_all}
use Rattle.std.specs.Str.{bytes_eq}
use Rattle.std.proofs.lemmas.List.Folds.{list_all-append}
use Rattle.std.proofs.lemmas.Bool.{not-true, and_parts, and_right}
use Rattle.sc_names.specs.Names.{begins_word, goes_on_word, is_word, is_ident}
use Rattle.sc_names.specs.Paths.{IsPath, ident, joined, BeginsPath}
use Rattle.sc_names.specs.Scanning.{Place, start, word, colon, nowhere, next, place, is_end, is_somewhere}

pub place-append : (p : Place) (xs ys : List ℕ) → place p (xs ++ ys) ≡ place (place p xs) ys
unfolding place
place-append p [] ys = refl
place-append p (x ∷ xs) ys = place-append (next p x) xs ys

pub place-nowhere : (xs : List ℕ) → place nowhere xs ≡ nowhere
unfolding place next
place-nowhere [] = refl
place-nowhere (x ∷ xs) = place-nowhere xs

-- a word goes on
next-word : (w : List ℕ) (c : ℕ) → goes_on_word c ≡ true → next (word w) c ≡ word (w ++ c ∷ [])
unfolding next
next-word w c h = rw h refl

pub place-word : (w cs : List ℕ) → list_all goes_on_word cs ≡ true → place (word w) cs ≡ word (w ++ cs)
unfolding place
place-word w [] h = rw append-nil refl
place-word w (c ∷ cs) h =
    let parts = and_parts (goes_on_word c) (list_all goes_on_word cs) h in
    rw (next-word w c parts.0) (place-word (w ++ c ∷ []) cs parts.1 ∙ ap word (append_assoc w (c ∷ []) cs))

-- a word from the start
pub place-start : (w : List ℕ) → is_word w ≡ true → place start w ≡ word w
unfolding place next
place-start [] h = cc
place-start (c ∷ cs) h =
    let parts = and_parts (begins_word c) (list_all goes_on_word cs) h in
    rw parts.0 (place-word (c ∷ []) cs parts.1)

-- an identifier and `::` lead to the start again
pub next-colon : (w : List ℕ) → is_ident w ≡ true → next (word w) 58 ≡ colon
unfolding next
next-colon w h = rw h refl

pub place-joined : (w cs : List ℕ) → is_ident w ≡ true → place start (w ++ (codes "::" ++ cs)) ≡ place start cs
unfolding place next
place-joined w cs h =
    let is : is_word w ≡ true = (and_parts (is_word w) _ h).0 in
    place-append start w (codes "::" ++ cs)
    ∙ (rw (place-start w is, next-colon w h) refl)

-- a path ends where a path may end
pub is_end-path : (t : List ℕ) → IsPath t → is_end (place start t) ≡ true
unfolding is_end
is_end-path _ (ident w h) = rw (place-start w (and_parts (is_word w) _ h).0) h
is_end-path _ (joined w p h path) = rw (place-joined w p h) (is_end-path p path)

-- what is still to come of a path
Completes : Place → List ℕ → Type 0
Completes start rest = IsPath rest
Completes (word w) rest = IsPath (w ++ rest)
Completes colon rest = (p : List ℕ) × (rest ≡ 58 ∷ p) × IsPath p
Completes nowhere rest = ⊥

by_word : (b : Bool) (c : ℕ) (cs : List ℕ) → Completes (if b then word (c ∷ []) else nowhere) cs → IsPath (c ∷ cs)
unfolding Completes
by_word true c cs h = h
by_word false c cs h = absurd h

by_colon : (b : Bool) (w : List ℕ) (c : ℕ) (cs : List ℕ) → ((c == 58) && is_ident w) ≡ b → Completes (if b then colon else nowhere) cs → IsPath (w ++ c ∷ cs)
unfolding Completes
by_colon true w c cs e h =
    let parts = and_parts (c == 58) (is_ident w) e in
    rw (eqb-true c 58 parts.0, h.1) (joined w h.0 parts.1 h.2)
by_colon false w c cs e h = absurd h

by_more : (b : Bool) (w : List ℕ) (c : ℕ) (cs : List ℕ) → Completes (if b then word (w ++ c ∷ []) else (if (c == 58) && is_ident w then colon else nowhere)) cs → IsPath (w ++ c ∷ cs)
unfolding Completes
by_more true w c cs h = subst IsPath (append_assoc w (c ∷ []) cs) h
by_more false w c cs h = by_colon ((c == 58) && is_ident w) w c cs refl h

by_second : (b : Bool) (c : ℕ) (cs : List ℕ) → (c == 58) ≡ b → Completes (if b then start else nowhere) cs → Completes colon (c ∷ cs)
unfolding Completes
by_second true c cs e h = (cs, ap (λ d. d ∷ cs) (eqb-true c 58 e), h)
by_second false c cs e h = absurd h

Completes-cons : (p : Place) (c : ℕ) (cs : List ℕ) → Completes (next p c) cs → Completes p (c ∷ cs)
unfolding Completes next
Completes-cons start c cs h = by_word (begins_word c) c cs h
Completes-cons (word w) c cs h = by_more (goes_on_word c) w c cs h
Completes-cons colon c cs h = by_second (c == 58) c cs refl h
Completes-cons nowhere c cs h = h

-- a text that ends where a path may end completes one
Completes-place : (p : Place) (rest : List ℕ) → is_end (place p rest) ≡ true → Completes p rest
unfolding Completes place is_end
Completes-place start [] h = cc
Completes-place (word w) [] h = rw append-nil (ident w h)
Completes-place colon [] h = cc
Completes-place nowhere [] h = cc
Completes-place p (c ∷ cs) h = Completes-cons p c cs (Completes-place (next p c) cs h)

pub IsPath-place : (t : List ℕ) → is_end (place start t) ≡ true → IsPath t
unfolding Completes
IsPath-place t h = Completes-place start t h

-- words that are reached are words
IsProper : Place → Type 0
IsProper start = Unit {0}
IsProper (word w) = is_word w ≡ true
IsProper colon = Unit {0}
IsProper nowhere = Unit {0}

is_word-more : (w : List ℕ) (c : ℕ) → is_word w ≡ true → goes_on_word c ≡ true → is_word (w ++ c ∷ []) ≡ true
is_word-more [] c h g = cc
is_word-more (b ∷ bs) c h g =
    let parts = and_parts (begins_word b) (list_all goes_on_word bs) h in
    rw (parts.0, list_all-append goes_on_word bs (c ∷ []), parts.1, g) refl

IsProper-first : (b : Bool) (c : ℕ) → begins_word c ≡ b → IsProper (if b then word (c ∷ []) else nowhere)
unfolding IsProper
IsProper-first true c e = rw e refl
IsProper-first false c e = tt

IsProper-colon : (b : Bool) → IsProper (if b then colon else nowhere)
unfolding IsProper
IsProper-colon true = tt
IsProper-colon false = tt

IsProper-second : (b : Bool) → IsProper (if b then start else nowhere)
unfolding IsProper
IsProper-second true = tt
IsProper-second false = tt

IsProper-more : (b : Bool) (w : List ℕ) (c : ℕ) → goes_on_word c ≡ b → is_word w ≡ true → IsProper (if b then word (w ++ c ∷ []) else (if (c == 58) && is_ident w then colon else nowhere))
unfolding IsProper
IsProper-more true w c e h = is_word-more w c h e
IsProper-more false w c e h = IsProper-colon ((c == 58) && is_ident w)

IsProper-next : (p : Place) (c : ℕ) → IsProper p → IsProper (next p c)
unfolding IsProper next
IsProper-next start c h = IsProper-first (begins_word c) c refl
IsProper-next (word w) c h = IsProper-more (goes_on_word c) w c refl h
IsProper-next colon c h = IsProper-second (c == 58)
IsProper-next nowhere c h = tt

IsProper-place : (p : Place) (cs : List ℕ) → IsProper p → IsProper (place p cs)
unfolding place
IsProper-place p [] h = h
IsProper-place p (c ∷ cs) h = IsProper-place (next p c) cs (IsProper-next p c h)

-- no reserved word has a digit, so a word and a 0 is an identifier
has_no_zero : List ℕ → Bool
has_no_zero r = list_all (λ c. not (nat_eq 48 c)) r

no_zero : (c : ℕ) (r : List ℕ) → has_no_zero (c ∷ r) ≡ true → nat_eq 48 c ≡ false
unfolding has_no_zero
no_zero c r h = not-true (nat_eq 48 c) (and_parts (not (nat_eq 48 c)) _ h).0

bytes_eq-zero : (w r : List ℕ) → has_no_zero r ≡ true → bytes_eq (w ++ 48 ∷ []) r ≡ false
unfolding has_no_zero
bytes_eq-zero [] [] h = refl
bytes_eq-zero [] (c ∷ r) h = rw (no_zero c r h) refl
bytes_eq-zero (b ∷ w) [] h = refl
bytes_eq-zero (b ∷ w) (c ∷ r) h = and_right (nat_eq b c) _ (bytes_eq-zero w r (and_parts (not (nat_eq 48 c)) (has_no_zero r) h).1)

is_ident-zero : (w : List ℕ) → is_word w ≡ true → is_ident (w ++ 48 ∷ []) ≡ true
unfolding has_no_zero
is_ident-zero w h =
    rw (
      is_word-more w 48 h refl,
      bytes_eq-zero w (codes "true") refl,
      bytes_eq-zero w (codes "false") refl,
      bytes_eq-zero w (codes "if") refl,
      bytes_eq-zero w (codes "then") refl,
      bytes_eq-zero w (codes "else") refl,
      bytes_eq-zero w (codes "in") refl,
      bytes_eq-zero w (codes "like") refl,
      bytes_eq-zero w (codes "is") refl,
      bytes_eq-zero w (codes "has") refl,
      bytes_eq-zero w (codes "__cedar") refl,
    ) refl

-- an end of a path, from a place
ending : Place → List ℕ
ending start = codes "a"
ending (word w) = codes "0"
ending colon = codes ":a"
ending nowhere = []

is_end-ending : (p : Place) → is_somewhere p ≡ true → IsProper p → is_end (place p (ending p)) ≡ true
unfolding IsProper ending place next is_end is_somewhere
is_end-ending start h w = refl
is_end-ending (word u) h w = is_ident-zero u w
is_end-ending colon h w = refl
is_end-ending nowhere h w = cc

-- the bytes that lead somewhere are those that some path begins with
pub BeginsPath-place : (t : List ℕ) → is_somewhere (place start t) ≡ true → BeginsPath t
unfolding IsProper
BeginsPath-place t h =
    (ending (place start t), IsPath-place _ (rw place-append (is_end-ending (place start t) h (IsProper-place start t tt))))

somewhere-end : (p : Place) (rest : List ℕ) → is_end (place p rest) ≡ true → is_somewhere p ≡ true
unfolding is_somewhere is_end
somewhere-end start rest h = refl
somewhere-end (word w) rest h = refl
somewhere-end colon rest h = refl
somewhere-end nowhere rest h = absurd (let e : false ≡ true = rw place-nowhere at h in cc)

pub is_somewhere-BeginsPath : (t : List ℕ) → BeginsPath t → is_somewhere (place start t) ≡ true
is_somewhere-BeginsPath t b = somewhere-end (place start t) b.0 (rw place-append at (is_end-path _ b.1))
