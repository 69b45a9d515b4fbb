-- What a step of reading a path shows of the text.
use Rattle.std.proofs.Common.{◌≡◌, ℕ, ◌+◌, ◌-◌, ◌<◌, ◌≤◌, ◌==◌, ◌&&◌, List, [], ◌∷◌, ◌++◌, length, take, drop, Bool, true, false, refl, sym, ◌∙◌, subst, length-drop, drop-drop, eqb-true, if◌then◌else◌, arith, add-one}
use Rattle.std.specs.List.{take_while}
use Rattle.std.proofs.lemmas.List.{take_rest, take-append-drop, length-take-le}
use Rattle.std.proofs.lemmas.List.Sums.{take_while-cons}
use Rattle.std.proofs.Math.Seq.{take-add, take-length}
use Rattle.sc_lists.proofs.TextLaws.{take_while_passes, take_while_front, take_while_stops, take_while_within}
use Rattle.sc_names.specs.Names.{begins_word, goes_on_word, is_word, is_ident}
use Rattle.sc_names.specs.Paths.{IsPath, IsBadAt}
use Rattle.sc_names.specs.Scanning.{Place, start, word, colon, nowhere, next, place, is_end, is_somewhere, word_len, colons, Stops, Stands, EndsIdent}
use Rattle.sc_names.proofs.PathLaws.{place-append, place-start, next-colon, IsPath-place}
use Rattle.sc_names.proofs.BadNameLaws.{IsBadAt-stops}

pub Stands_start : (t : List ℕ) → Stands t 0 start
unfolding place
Stands_start t = record { within = omega arith; there = refl }

place-take-add : (t : List ℕ) (at n : ℕ) → place start (take (at + n) t) ≡ place (place start (take at t)) (take n (drop at t))
place-take-add t at n = rw (take-add at n t) (place-append start (take at t) (take n (drop at t)))

-- some bytes further
Stands-add : (t : List ℕ) (at n : ℕ) (p : Place) → Stands t at p → n ≤ length (drop at t) → Stands t (at + n) (place p (take n (drop at t)))
Stands-add t at n p s h = record {
  within = let k : n ≤ length t - at = rw length-drop at h in omega (arith, s.within);
  there = rw (place-take-add t at n, s.there) refl;
}

IsBadAt-stands : (t : List ℕ) (at : ℕ) (p : Place) → Stands t at p → is_somewhere p ≡ true → Stops p (drop at t) → IsBadAt t at
IsBadAt-stands t at p s somewhere stops =
    let bad : IsBadAt (take at t ++ drop at t) (length (take at t)) = IsBadAt-stops (take at t) (drop at t) (rw s.there somewhere) (rw s.there stops) in
    rw (take-append-drop, length-take-le at t s.within) at bad

pub IsPath_ends : (t : List ℕ) (at : ℕ) → EndsIdent t at → at ≡ length t → IsPath t
unfolding is_end
IsPath_ends t at e h = IsPath-place t (let there : place start t ≡ word e.name = rw (h, take-length) at e.stands.there in rw there e.is_name)

-- how reading goes on with some bytes: it gets somewhere, and no further
record Ends (p : Place) (bytes : List ℕ) (n : ℕ) : Type 0 where
  within : n ≤ length bytes
  somewhere : is_somewhere (place p (take n bytes)) ≡ true
  stops : Stops (place p (take n bytes)) (drop n bytes)

IsBadAt-Ends : (t : List ℕ) (at n : ℕ) (p : Place) → Stands t at p → Ends p (drop at t) n → IsBadAt t (at + n)
IsBadAt-Ends t at n p s e =
    IsBadAt-stands t (at + n) (place p (take n (drop at t))) (Stands-add t at n p s e.within) e.somewhere (rw (← drop-drop n at t) e.stops)

stops_here : (p : ℕ → Bool) (c : ℕ) (cs : List ℕ) → take_while p (c ∷ cs) ≡ [] → p c ≡ false
stops_here p c cs h = elim (p c) as (λ b. p c ≡ b → b ≡ false) [
  | true ↦ λ e. absurd (let k : c ∷ take_while p cs ≡ [] = (rw (take_while-cons, e) at h) in cc)
  | false ↦ λ e. refl
] refl

Stops-word : (w s : List ℕ) → is_ident w ≡ false → take_while goes_on_word s ≡ [] → Stops (word w) s
unfolding Stops is_end next
Stops-word w [] h e = h
Stops-word w (c ∷ s) h e = rw (stops_here goes_on_word c s e, h) (elim (c == 58) as (λ b. (if b && false then colon else nowhere) ≡ nowhere) [ true ↦ refl | false ↦ refl ])

-- a word, where one begins
word_of : ℕ → List ℕ → List ℕ
word_of c cs = c ∷ take_while goes_on_word cs

is_word-word_of : (c : ℕ) (cs : List ℕ) → begins_word c ≡ true → is_word (word_of c cs) ≡ true
unfolding word_of
is_word-word_of c cs h = rw (h, take_while_passes goes_on_word cs) refl

word_len-cons : (c : ℕ) (cs : List ℕ) → begins_word c ≡ true → take (word_len (c ∷ cs)) (c ∷ cs) ≡ word_of c cs
unfolding word_len word_of
word_len-cons c cs h = rw (h, add-one, take_while_front goes_on_word cs) refl

word_len-none : (c : ℕ) (cs : List ℕ) → begins_word c ≡ false → word_len (c ∷ cs) ≡ 0
unfolding word_len
word_len-none c cs h = rw h refl

word_len-some : (c : ℕ) (cs : List ℕ) → begins_word c ≡ true → word_len (c ∷ cs) ≡ length (take_while goes_on_word cs) + 1
unfolding word_len
word_len-some c cs h = rw h refl

word_len-le_of : (c : ℕ) (cs : List ℕ) (b : Bool) → begins_word c ≡ b → word_len (c ∷ cs) ≤ length (c ∷ cs)
word_len-le_of c cs true e = rw (word_len-some c cs e) (omega (arith, take_while_within goes_on_word cs))
word_len-le_of c cs false e = rw (word_len-none c cs e) (omega arith)

word_len-le : (bytes : List ℕ) → word_len bytes ≤ length bytes
unfolding word_len
word_len-le [] = omega arith
word_len-le (c ∷ cs) = word_len-le_of c cs (begins_word c) refl

longest : (c : ℕ) (cs : List ℕ) → begins_word c ≡ true → take_while goes_on_word (drop (word_len (c ∷ cs)) (c ∷ cs)) ≡ []
longest c cs e = rw (word_len-some c cs e, add-one) (take_while_stops goes_on_word cs)

Stops-start : (c : ℕ) (cs : List ℕ) → begins_word c ≡ false → Stops start (c ∷ cs)
unfolding Stops next
Stops-start c cs e = rw e refl

Ends-word_of : (c : ℕ) (cs : List ℕ) (b : Bool) → begins_word c ≡ b → is_ident (take (word_len (c ∷ cs)) (c ∷ cs)) ≡ false → Ends start (c ∷ cs) (word_len (c ∷ cs))
unfolding place is_somewhere word_of
Ends-word_of c cs true e h =
    let there : place start (take (word_len (c ∷ cs)) (c ∷ cs)) ≡ word (word_of c cs) = rw (word_len-cons c cs e) (place-start _ (is_word-word_of c cs e)) in
    let no : is_ident (word_of c cs) ≡ false = rw (word_len-cons c cs e) at h in
    record {
      within = word_len-le (c ∷ cs);
      somewhere = rw there refl;
      stops = rw there (Stops-word (word_of c cs) _ no (longest c cs e));
    }
Ends-word_of c cs false e h = rw (word_len-none c cs e) (record { within = omega arith; somewhere = refl; stops = Stops-start c cs e })

Ends-word : (bytes : List ℕ) → is_ident (take (word_len bytes) bytes) ≡ false → Ends start bytes (word_len bytes)
unfolding word_len place is_somewhere Stops is_end
Ends-word [] h = record { within = omega arith; somewhere = refl; stops = refl }
Ends-word (c ∷ cs) h = Ends-word_of c cs (begins_word c) refl h

IsBadAt-word_len : (t : List ℕ) (at : ℕ) → Stands t at start → is_ident (take (word_len (drop at t)) (drop at t)) ≡ false → IsBadAt t (at + word_len (drop at t))
IsBadAt-word_len t at s h = IsBadAt-Ends t at (word_len (drop at t)) start s (Ends-word (drop at t) h)

begins_of : (c : ℕ) (cs : List ℕ) (b : Bool) → begins_word c ≡ b → is_ident (take (word_len (c ∷ cs)) (c ∷ cs)) ≡ true
    → (0 < word_len (c ∷ cs)) × (take_while goes_on_word (drop (word_len (c ∷ cs)) (c ∷ cs)) ≡ [])
begins_of c cs true e h = (rw (word_len-some c cs e) (omega arith), longest c cs e)
begins_of c cs false e h = absurd (let k : false ≡ true = rw (word_len-none c cs e) at h in cc)

word_of_ident : (w : List ℕ) → is_ident w ≡ true → is_word w ≡ true
word_of_ident w h = elim (is_word w) as (λ b. is_word w ≡ b → b ≡ true) [ true ↦ λ e. refl | false ↦ λ e. absurd (let k : false ≡ true = rw e at h in cc) ] refl

-- an identifier has a first letter
begins : (bytes : List ℕ) → is_ident (take (word_len bytes) bytes) ≡ true → (0 < word_len bytes) × (take_while goes_on_word (drop (word_len bytes) bytes) ≡ [])
unfolding word_len
begins [] h = cc
begins (c ∷ cs) h = begins_of c cs (begins_word c) refl h

EndsIdent-word_len : (t : List ℕ) (at : ℕ) → Stands t at start → is_ident (take (word_len (drop at t)) (drop at t)) ≡ true → EndsIdent t (at + word_len (drop at t))
EndsIdent-word_len t at s h =
    let is : is_word (take (word_len (drop at t)) (drop at t)) ≡ true = word_of_ident (take (word_len (drop at t)) (drop at t)) h in
    let there : place start (take (word_len (drop at t)) (drop at t)) ≡ word (take (word_len (drop at t)) (drop at t)) = place-start (take (word_len (drop at t)) (drop at t)) is in
    record {
      name = take (word_len (drop at t)) (drop at t);
      is_name = h;
      stands = subst (Stands t (at + word_len (drop at t))) there (Stands-add t at (word_len (drop at t)) start s (word_len-le (drop at t)));
      longest = rw (← drop-drop (word_len (drop at t)) at t) (begins (drop at t) h).1;
    }

word_len-positive : (bytes : List ℕ) → is_ident (take (word_len bytes) bytes) ≡ true → 0 < word_len bytes
word_len-positive bytes h = (begins bytes h).0

-- the same of the slices that the code takes
the_rest : (t : List ℕ) (at n : ℕ) → n ≡ word_len (take (length t - at) (drop at t)) → n ≡ word_len (drop at t)
the_rest t at n e = rw take_rest at e

the_word : (t : List ℕ) (at n : ℕ) (b : Bool) → n ≡ word_len (take (length t - at) (drop at t)) → b ≡ is_ident (take (at + n - at) (drop at t)) → b ≡ is_ident (take (word_len (drop at t)) (drop at t))
the_word t at n b e h = let k : at + n - at ≡ n = omega arith in rw (k, the_rest t at n e) at h

pub IsBadAt_word : (t : List ℕ) (at n : ℕ) (b : Bool) → Stands t at start → n ≡ word_len (take (length t - at) (drop at t)) → b ≡ is_ident (take (at + n - at) (drop at t)) → b ≡ false → IsBadAt t (at + n)
IsBadAt_word t at n b s e h is_none = rw (the_rest t at n e) (IsBadAt-word_len t at s (sym (the_word t at n b e h) ∙ is_none))

pub EndsIdent_word : (t : List ℕ) (at n : ℕ) (b : Bool) → Stands t at start → n ≡ word_len (take (length t - at) (drop at t)) → b ≡ is_ident (take (at + n - at) (drop at t)) → b ≡ true → EndsIdent t (at + n)
EndsIdent_word t at n b s e h is_one = rw (the_rest t at n e) (EndsIdent-word_len t at s (sym (the_word t at n b e h) ∙ is_one))

pub onward_word : (t : List ℕ) (at n : ℕ) (b : Bool) → n ≡ word_len (take (length t - at) (drop at t)) → b ≡ is_ident (take (at + n - at) (drop at t)) → b ≡ true → at < at + n
onward_word t at n b e h is_one = let k : 0 < n = rw (the_rest t at n e) (word_len-positive (drop at t) (sym (the_word t at n b e h) ∙ is_one)) in omega arith

-- the colons after an identifier

colons-none : (c : ℕ) (s : List ℕ) → (c == 58) ≡ false → colons (c ∷ s) ≡ 0
unfolding colons
colons-none c s e = rw (take_while-cons, e) refl

colons-last : (c : ℕ) → (c == 58) ≡ true → colons (c ∷ []) ≡ 1
unfolding colons
colons-last c e = rw (take_while-cons, e) refl

colons-one : (c d : ℕ) (s : List ℕ) → (c == 58) ≡ true → (d == 58) ≡ false → colons (c ∷ d ∷ s) ≡ 1
unfolding colons
colons-one c d s e f = simp (take_while-cons, e, f)

colons-two : (c d : ℕ) (s : List ℕ) → (c == 58) ≡ true → (d == 58) ≡ true → colons (c ∷ d ∷ s) ≡ 2
unfolding colons
colons-two c d s e f = simp (take_while-cons, e, f)

next-58 : (w : List ℕ) (c : ℕ) → is_ident w ≡ true → (c == 58) ≡ true → next (word w) c ≡ colon
next-58 w c h e = rw (eqb-true c 58 e) (next-colon w h)

next-start : (d : ℕ) → (d == 58) ≡ true → next colon d ≡ start
unfolding next
next-start d f = rw f refl

Stops-colon : (c : ℕ) (s : List ℕ) → (c == 58) ≡ false → Stops colon (c ∷ s)
unfolding Stops next
Stops-colon c s e = rw e refl

Stops-ident : (w : List ℕ) (c : ℕ) (s : List ℕ) → take_while goes_on_word (c ∷ s) ≡ [] → (c == 58) ≡ false → Stops (word w) (c ∷ s)
unfolding Stops next
Stops-ident w c s longest e = rw (stops_here goes_on_word c s longest, e) refl

-- what stands after an identifier: no colon, one colon alone, or two
data Separator (bytes : List ℕ) : Type 0 where
  no_colon : (c : ℕ) (s : List ℕ) → bytes ≡ c ∷ s → (c == 58) ≡ false → Separator bytes
  last_colon : (c : ℕ) → bytes ≡ c ∷ [] → (c == 58) ≡ true → Separator bytes
  one_colon : (c d : ℕ) (s : List ℕ) → bytes ≡ c ∷ d ∷ s → (c == 58) ≡ true → (d == 58) ≡ false → Separator bytes
  two_colons : (c d : ℕ) (s : List ℕ) → bytes ≡ c ∷ d ∷ s → (c == 58) ≡ true → (d == 58) ≡ true → Separator bytes

separator_of : (c d : ℕ) (s : List ℕ) (a b : Bool) → (c == 58) ≡ a → (d == 58) ≡ b → Separator (c ∷ d ∷ s)
separator_of c d s false b e f = no_colon c (d ∷ s) refl e
separator_of c d s true false e f = one_colon c d s refl e f
separator_of c d s true true e f = two_colons c d s refl e f

separator_last : (c : ℕ) (a : Bool) → (c == 58) ≡ a → Separator (c ∷ [])
separator_last c false e = no_colon c [] refl e
separator_last c true e = last_colon c refl e

separator : (bytes : List ℕ) → 0 < length bytes → Separator bytes
separator [] h = absurd (omega arith)
separator (c ∷ []) h = separator_last c (c == 58) refl
separator (c ∷ d ∷ s) h = separator_of c d s (c == 58) (d == 58) refl refl

Ends-separator : (w bytes : List ℕ) → is_ident w ≡ true → take_while goes_on_word bytes ≡ [] → Separator bytes → colons bytes < 2 → Ends (word w) bytes (colons bytes)
unfolding place is_somewhere Stops is_end
Ends-separator w bytes h longest (no_colon c s is e) few =
    let none : colons bytes ≡ 0 = rw is (colons-none c s e) in
    rw (none, is) (record { within = omega arith; somewhere = refl; stops = Stops-ident w c s (rw is at longest) e })
Ends-separator w bytes h longest (last_colon c is e) few =
    let one : colons bytes ≡ 1 = rw is (colons-last c e) in
    rw (one, is) (record { within = omega arith; somewhere = rw (next-58 w c h e) refl; stops = rw (next-58 w c h e) refl })
Ends-separator w bytes h longest (one_colon c d s is e f) few =
    let one : colons bytes ≡ 1 = rw is (colons-one c d s e f) in
    rw (one, is) (record { within = omega arith; somewhere = rw (next-58 w c h e) refl; stops = rw (next-58 w c h e) (Stops-colon d s f) })
Ends-separator w bytes h longest (two_colons c d s is e f) few =
    absurd (let two : colons bytes ≡ 2 = rw is (colons-two c d s e f) in omega arith)

IsBadAt-colons : (t : List ℕ) (at : ℕ) → EndsIdent t at → at < length t → colons (drop at t) < 2 → IsBadAt t (at + colons (drop at t))
IsBadAt-colons t at ident more few =
    let some : 0 < length (drop at t) = rw length-drop (omega arith) in
    IsBadAt-Ends t at (colons (drop at t)) (word ident.name) ident.stands (Ends-separator ident.name (drop at t) ident.is_name ident.longest (separator (drop at t) some) few)

-- two colons lead to the next identifier
Stands-separator : (w bytes : List ℕ) → is_ident w ≡ true → Separator bytes → 2 ≤ colons bytes → (colons bytes ≤ length bytes) × (place (word w) (take (colons bytes) bytes) ≡ start)
unfolding place
Stands-separator w bytes h (no_colon c s is e) two = absurd (let none : colons bytes ≡ 0 = rw is (colons-none c s e) in omega arith)
Stands-separator w bytes h (last_colon c is e) two = absurd (let one : colons bytes ≡ 1 = rw is (colons-last c e) in omega arith)
Stands-separator w bytes h (one_colon c d s is e f) two = absurd (let one : colons bytes ≡ 1 = rw is (colons-one c d s e f) in omega arith)
Stands-separator w bytes h (two_colons c d s is e f) two =
    let both : colons bytes ≡ 2 = rw is (colons-two c d s e f) in
    rw (both, is) (omega arith, rw (next-58 w c h e) (next-start d f))

Stands-colons : (t : List ℕ) (at : ℕ) → EndsIdent t at → at < length t → 2 ≤ colons (drop at t) → Stands t (at + colons (drop at t)) start
Stands-colons t at ident more two =
    let some : 0 < length (drop at t) = rw length-drop (omega arith) in
    let next : (colons (drop at t) ≤ length (drop at t)) × (place (word ident.name) (take (colons (drop at t)) (drop at t)) ≡ start) = Stands-separator ident.name (drop at t) ident.is_name (separator (drop at t) some) two in
    subst (Stands t (at + colons (drop at t))) next.1 (Stands-add t at (colons (drop at t)) (word ident.name) ident.stands next.0)

-- the same of the slice that the code takes
the_colons : (t : List ℕ) (at n : ℕ) → n ≡ colons (take (length t - at) (drop at t)) → n ≡ colons (drop at t)
the_colons t at n e = rw take_rest at e

pub IsBadAt_colons : (t : List ℕ) (at n : ℕ) → EndsIdent t at → at < length t → n ≡ colons (take (length t - at) (drop at t)) → n < 2 → IsBadAt t (at + n)
IsBadAt_colons t at n ident more e few = rw (the_colons t at n e) (IsBadAt-colons t at ident more (rw (the_colons t at n e) at few))

pub Stands_colons : (t : List ℕ) (at n : ℕ) → EndsIdent t at → at < length t → n ≡ colons (take (length t - at) (drop at t)) → 2 ≤ n → Stands t (at + n) start
Stands_colons t at n ident more e two = rw (the_colons t at n e) (Stands-colons t at ident more (rw (the_colons t at n e) at two))
