-- Laws of places in a piece of a log's text, and of the lines that end within it.
use Rattle.std.proofs.Common.{◌≡◌, ◌+◌, ◌-◌, ◌<◌, ◌≤◌, ◌==◌, ◌⊎◌, inl, inr, ℕ, zero, suc, List, [], ◌∷◌, ◌++◌, take, drop, get_or, length, true, not, refl, sym, ap, ◌∙◌, append_assoc, arith}
use Rattle.std.proofs.Math.Seq.{drop-append_seam, drop-append-add, take-append_seam}
use Rattle.std.proofs.lemmas.Bool.{and_parts, and_from, eq-eqb, eqb-true, ne_eqb, true≢false}
use Rattle.std.proofs.lemmas.List.{length-append, length-drop, drop-drop, take_all, get_or-drop}
use Rattle.sc_logs.specs.LineSteps.{ends_line}
use Rattle.sc_logs.specs.Texts.{has_no_newline}

-- ---- the last newline

front_within : (bytes left tail : List ℕ) → bytes ≡ left ++ tail → length left ≤ length bytes
front_within bytes left tail is = let long : length bytes ≡ length left + length tail = ap length is ∙ length-append left tail in omega (arith, long)

-- what stands before and behind the last byte of a front
pub front_shorter : (bytes left before : List ℕ) (last : ℕ) → bytes ≡ left ++ drop (length left) bytes → left ≡ before ++ last ∷ [] → bytes ≡ before ++ last ∷ drop (length left) bytes
front_shorter bytes left before last is cut =
    is ∙ (ap (λ (xs : List ℕ). xs ++ drop (length left) bytes) cut ∙ append_assoc before (last ∷ []) (drop (length left) bytes))

behind_front : (bytes before tail : List ℕ) → bytes ≡ before ++ tail → drop (length before) bytes ≡ tail
behind_front bytes before tail is = ap (drop (length before)) is ∙ drop-append_seam before tail

pub end_passed : (bytes left before : List ℕ) (last : ℕ) → bytes ≡ left ++ drop (length left) bytes → has_no_newline (drop (length left) bytes) ≡ true → left ≡ before ++ last ∷ [] → (last ≡ 10 → ⊥)
    → (bytes ≡ before ++ drop (length before) bytes) × (has_no_newline (drop (length before) bytes) ≡ true)
end_passed bytes left before last is free cut other =
    let moved = front_shorter bytes left before last is cut in
    let tail = behind_front bytes before (last ∷ drop (length left) bytes) moved in (
      moved ∙ ap (λ (xs : List ℕ). before ++ xs) (sym tail),
      ap has_no_newline tail ∙ and_from (not (last == 10)) (has_no_newline (drop (length left) bytes)) (ap not (ne_eqb last 10 other)) free,
    )

last_at : (before : List ℕ) (last : ℕ) → get_or (before ++ last ∷ []) (length before) 0 ≡ last
last_at [] last = refl
last_at (b ∷ before) last = last_at before last

pub last_ends : (xs before : List ℕ) (last : ℕ) → xs ≡ before ++ last ∷ [] → last ≡ 10 → ends_line xs ≡ true
last_ends xs before last is newline =
    let long : length xs ≡ length before + 1 = ap length is ∙ length-append before (last ∷ []) in
    let at : length xs - 1 ≡ length before = omega (arith, long) in
    eq-eqb (get_or xs (length xs - 1) 0) 10 ((λ i. get_or (is i) (at i) 0) ∙ (last_at before last ∙ newline))

pub end_found : (bytes left before : List ℕ) (last n : ℕ) → bytes ≡ left ++ drop (length left) bytes → left ≡ before ++ last ∷ [] → last ≡ 10 → n ≡ length left → ends_line (take n bytes) ≡ true
end_found bytes left before last n is cut newline at =
    let front : take n bytes ≡ left = (λ i. take (at i) (is i)) ∙ take-append_seam left (drop (length left) bytes) in
    ap ends_line front ∙ last_ends left before last cut newline

-- ---- a line at a place

-- bytes that end with a newline have one from each place on
pub newline_there : (bytes : List ℕ) (from : ℕ) → ends_line bytes ≡ true → from < length bytes → has_no_newline (drop from bytes) ≡ true → ⊥
newline_there bytes from ended h free =
    let k = length bytes - 1 - from in
    let at : from + k ≡ length bytes - 1 = omega (arith, h) in
    let long = length-drop from bytes in
    let within : k < length (drop from bytes) = omega (arith, long, h) in
    let there : get_or (drop from bytes) k 0 ≡ get_or bytes (length bytes - 1) 0 = get_or-drop from bytes k 0 ∙ ap (λ (i : ℕ). get_or bytes i 0) at in
    no_newline_at (drop from bytes) k within free (there ∙ eqb-true (get_or bytes (length bytes - 1) 0) 10 ended)
  where
    no_newline_at : (xs : List ℕ) (k : ℕ) → k < length xs → has_no_newline xs ≡ true → get_or xs k 0 ≡ 10 → ⊥
    no_newline_at [] k h free is = absurd (omega arith)
    no_newline_at (x ∷ xs) zero h free is = true≢false (sym (and_parts (not (x == 10)) (has_no_newline xs) free).0 ∙ ap not (eq-eqb x 10 is))
    no_newline_at (x ∷ xs) (suc k) h free is = no_newline_at xs k (omega arith) (and_parts (not (x == 10)) (has_no_newline xs) free).1 is

pub rest_from : (bytes : List ℕ) (from : ℕ) → take (length bytes - from) (drop from bytes) ≡ drop from bytes
rest_from bytes from = let long = length-drop from bytes in take_all (length bytes - from) (drop from bytes) (omega (arith, long))

-- what stands behind the newline of the line at a place
pub line_later : (bytes line later : List ℕ) (from : ℕ) → drop from bytes ≡ line ++ 10 ∷ later → drop (from + length line + 1) bytes ≡ later
line_later bytes line later from is =
    let at : from + length line + 1 ≡ from + (length line + 1) = omega arith in
    ap (λ (k : ℕ). drop k bytes) at ∙ (sym (drop-drop (length line + 1) from bytes)
    ∙ (ap (drop (length line + 1)) is ∙ drop-append-add line (10 ∷ later) 1))

pub line_within : (bytes line later : List ℕ) (from : ℕ) → drop from bytes ≡ line ++ 10 ∷ later → from < length bytes → from + length line + 1 ≤ length bytes
line_within bytes line later from is h =
    let long : length (drop from bytes) ≡ length line + suc (length later) = ap length is ∙ length-append line (10 ∷ later) in
    let whole = length-drop from bytes in
    omega (arith, long, whole, h)

-- bytes that aren't none
pub some_ended : (bytes : List ℕ) (place : ℕ) → place < length bytes → (length bytes ≡ 0) ⊎ (ends_line bytes ≡ true) → ends_line bytes ≡ true
some_ended bytes place h (inl none) = absurd (omega (arith, none))
some_ended bytes place h (inr ended) = ended

-- the front of bytes up to a place
pub front_ended : (bytes front : List ℕ) (n : ℕ) → front ≡ take n bytes → length front ≡ n → (n ≡ 0) ⊎ (ends_line (take n bytes) ≡ true) → (length front ≡ 0) ⊎ (ends_line front ≡ true)
front_ended bytes front n is long (inl none) = inl (long ∙ none)
front_ended bytes front n is long (inr ended) = inr (ap ends_line is ∙ ended)
