-- What escaping leaves, and that it can be undone.
use Rattle.std.proofs.Common.{◌≡◌, ◌≢◌, ℕ, ◌<◌, ◌≤◌, ◌==◌, ◌&&◌, ◌||◌, ◌/◌, ◌%◌, List, [], ◌∷◌, ◌++◌, length, get_or, Bool, true, false, refl, sym, ◌∙◌, ap, append_assoc, append-nil, eqb-true, arith, nat_lt, inl, inr, suc}
use Rattle.std.specs.Prelude.{not, if◌then◌else◌}
use Rattle.std.specs.Char.{digit_char, digit_value, encode_utf8}
use Rattle.std.specs.Str.{encode_utf8_all}
use Rattle.std.proofs.lemmas.Bool.{cases_lt, and_parts}
use Rattle.std.proofs.lemmas.Bool.Decides.{nat_tests, eqb_tells}
use Rattle.std.proofs.lemmas.Grind.{flat_map-append}
use Rattle.std.proofs.lemmas.Str.{encode_ascii, encodes-append, digit_value-digit_char}
use Rattle.std.proofs.lemmas.List.{append_cancel_right}
use Rattle.sc_lists.proofs.TextLaws.{high_byte}
use Rattle.sc_names.specs.declared.uid.Uid.{Uid}
use Rattle.sc_names.specs.Escapes.{hex, escaped, escaped_text, uid_text}

-- a byte that stands for itself
escaped-plain : (b : ℕ) → 32 ≤ b → b ≢ 34 → b ≢ 92 → b ≢ 127 → escaped b ≡ b ∷ []
unfolding escaped
escaped-plain b low quote backslash delete = grind (arith, nat_tests)

escaped_text-high : (bs : List ℕ) → ((k : ℕ) → k < length bs → 128 ≤ get_or bs k 0) → escaped_text bs ≡ bs
escaped_text-high [] h = refl
escaped_text-high (b ∷ bs) h =
    let high : 128 ≤ b = h 0 (omega arith) in
    rw (escaped-plain b (omega arith) (omega arith) (omega arith) (omega arith), escaped_text-high bs (λ k within. h (suc k) (omega arith))) refl

pub escaped_text_plain : (c : ℕ) → 32 ≤ c → c ≢ 34 → c ≢ 92 → c ≢ 127 → escaped_text (encode_utf8 c) ≡ encode_utf8 c
escaped_text_plain c low quote backslash delete = elim (cases_lt c 128) [
  | inl less ↦ rw (encode_ascii c less, escaped-plain c low quote backslash delete) refl
  | inr high ↦ escaped_text-high (encode_utf8 c) (λ k within. high_byte c k high within)
]

-- one more character is put
pub escaped_text_more : (old now new cs : List ℕ) (c : ℕ) → now ≡ old ++ escaped_text (encode_utf8_all cs) → new ≡ now ++ escaped_text (encode_utf8 c)
    → new ≡ old ++ escaped_text (encode_utf8_all (cs ++ c ∷ []))
escaped_text_more old now new cs c before put =
    let joined : escaped_text (encode_utf8_all (cs ++ c ∷ [])) ≡ escaped_text (encode_utf8_all cs) ++ escaped_text (encode_utf8 c) = rw (encodes-append, flat_map-append, append-nil) refl in
    rw (joined, put, before) (append_assoc old (escaped_text (encode_utf8_all cs)) (escaped_text (encode_utf8 c)))

-- what a letter after a backslash stands for
meant : ℕ → ℕ
meant c = if c == 110 then 10 else (if c == 114 then 13 else (if c == 116 then 9 else (if c == 48 then 0 else c)))

-- the three ways in which a byte is put
data Escape (b : ℕ) : Type 0 where
  letter : (c : ℕ) → escaped b ≡ 92 ∷ c ∷ [] → c ≢ 117 → meant c ≡ b → Escape b
  code : escaped b ≡ 92 ∷ 117 ∷ 123 ∷ (hex b ++ 125 ∷ []) → b < 128 → Escape b
  plain : escaped b ≡ b ∷ [] → b ≢ 92 → b ≢ 34 → Escape b

escape_code : (b : ℕ) (t : Bool) → (nat_lt b 32 || (b == 127)) ≡ t → b ≢ 92 → b ≢ 34 → b ≢ 10 → b ≢ 13 → b ≢ 9 → b ≢ 0 → Escape b
unfolding escaped
escape_code b true e h1 h2 h3 h4 h5 h6 = code (grind (arith, nat_tests)) (grind (arith, nat_tests))
escape_code b false e h1 h2 h3 h4 h5 h6 = plain (grind (arith, nat_tests)) h1 h2

escape_of : (b : ℕ) → Escape b
unfolding escaped meant
escape_of b = elim (eqb_tells b 92) [
  | inl is ↦ letter 92 (rw is.1 refl) (omega arith) (sym is.1)
  | inr no1 ↦ elim (eqb_tells b 34) [
    | inl is ↦ letter 34 (rw is.1 refl) (omega arith) (sym is.1)
    | inr no2 ↦ elim (eqb_tells b 10) [
      | inl is ↦ letter 110 (rw is.1 refl) (omega arith) (sym is.1)
      | inr no3 ↦ elim (eqb_tells b 13) [
        | inl is ↦ letter 114 (rw is.1 refl) (omega arith) (sym is.1)
        | inr no4 ↦ elim (eqb_tells b 9) [
          | inl is ↦ letter 116 (rw is.1 refl) (omega arith) (sym is.1)
          | inr no5 ↦ elim (eqb_tells b 0) [
            | inl is ↦ letter 48 (rw is.1 refl) (omega arith) (sym is.1)
            | inr no6 ↦ escape_code b (nat_lt b 32 || (b == 127)) refl no1.1 no2.1 no3.1 no4.1 no5.1 no6.1
          ]
        ]
      ]
    ]
  ]
]

-- hexadecimal digits end before a brace, and tell the number
small_digit : (d : ℕ) → d < 16 → (48 ≤ digit_char d) × (digit_char d < 103)
small_digit d h = grind (arith, nat_tests)

digit_same : (d e : ℕ) → d < 16 → e < 16 → digit_char d ≡ digit_char e → d ≡ e
digit_same d e h k is =
    sym (digit_value-digit_char d (omega arith)) ∙ ap digit_value is ∙ digit_value-digit_char e (omega arith)

hex_one : (n : ℕ) → n < 16 → hex n ≡ digit_char n ∷ []
hex_one n h = grind (arith, nat_tests)

hex_two : (n : ℕ) → 16 ≤ n → hex n ≡ digit_char (n / 16) ∷ digit_char (n % 16) ∷ []
hex_two n h = grind (arith, nat_tests)

-- the bytes after a `{`: one digit or two, and the brace
data Digits (n : ℕ) : Type 0 where
  one : n < 16 → hex n ≡ digit_char n ∷ [] → Digits n
  two : n / 16 < 16 → hex n ≡ digit_char (n / 16) ∷ digit_char (n % 16) ∷ [] → Digits n

digits_of : (n : ℕ) → n < 128 → Digits n
digits_of n h = elim (cases_lt n 16) [ inl less ↦ one less (hex_one n less) | inr above ↦ two (omega arith) (hex_two n above) ]

hex-same : (m n : ℕ) (xs ys : List ℕ) → Digits m → Digits n → hex m ++ 125 ∷ xs ≡ hex n ++ 125 ∷ ys → (m ≡ n) × (xs ≡ ys)
hex-same m n xs ys (one h e) (one k f) is =
    let bytes : digit_char m ∷ 125 ∷ xs ≡ digit_char n ∷ 125 ∷ ys = rw (e, f) at is in
    let first : digit_char m ≡ digit_char n = cc in
    let rest : xs ≡ ys = cc in
    (digit_same m n h k first, rest)
hex-same m n xs ys (one h e) (two k f) is =
    let bytes : digit_char m ∷ 125 ∷ xs ≡ digit_char (n / 16) ∷ digit_char (n % 16) ∷ 125 ∷ ys = rw (e, f) at is in
    let second : 125 ≡ digit_char (n % 16) = cc in
    absurd (omega (arith, (small_digit (n % 16) (omega arith)).1))
hex-same m n xs ys (two h e) (one k f) is =
    let bytes : digit_char (m / 16) ∷ digit_char (m % 16) ∷ 125 ∷ xs ≡ digit_char n ∷ 125 ∷ ys = rw (e, f) at is in
    let second : digit_char (m % 16) ≡ 125 = cc in
    absurd (omega (arith, (small_digit (m % 16) (omega arith)).1))
hex-same m n xs ys (two h e) (two k f) is =
    let bytes : digit_char (m / 16) ∷ digit_char (m % 16) ∷ 125 ∷ xs ≡ digit_char (n / 16) ∷ digit_char (n % 16) ∷ 125 ∷ ys = rw (e, f) at is in
    let first : digit_char (m / 16) ≡ digit_char (n / 16) = cc in
    let second : digit_char (m % 16) ≡ digit_char (n % 16) = cc in
    let rest : xs ≡ ys = cc in
    let high : m / 16 ≡ n / 16 = digit_same (m / 16) (n / 16) h k first in
    let low : m % 16 ≡ n % 16 = digit_same (m % 16) (n % 16) (omega arith) (omega arith) second in
    (omega arith, rest)

-- the first byte of an escaped text can be read back
escaped-same : (a b : ℕ) (xs ys : List ℕ) → Escape a → Escape b → escaped a ++ xs ≡ escaped b ++ ys → (a ≡ b) × (xs ≡ ys)
escaped-same a b xs ys (letter c e differs m) (letter d f ne n) is =
    let bytes : 92 ∷ c ∷ xs ≡ 92 ∷ d ∷ ys = rw (e, f) at is in
    let same : c ≡ d = cc in
    let rest : xs ≡ ys = cc in
    (sym m ∙ ap meant same ∙ n, rest)
escaped-same a b xs ys (letter c e differs m) (code f k) is =
    let bytes : 92 ∷ c ∷ xs ≡ 92 ∷ 117 ∷ 123 ∷ ((hex b ++ 125 ∷ []) ++ ys) = rw (e, f) at is in
    absurd (differs cc)
escaped-same a b xs ys (letter c e differs m) (plain f ne k) is =
    let bytes : 92 ∷ c ∷ xs ≡ b ∷ ys = rw (e, f) at is in
    absurd (ne cc)
escaped-same a b xs ys (code e h) (letter d f ne n) is =
    let bytes : 92 ∷ 117 ∷ 123 ∷ ((hex a ++ 125 ∷ []) ++ xs) ≡ 92 ∷ d ∷ ys = rw (e, f) at is in
    absurd (ne cc)
escaped-same a b xs ys (code e h) (code f k) is =
    let bytes : 92 ∷ 117 ∷ 123 ∷ ((hex a ++ 125 ∷ []) ++ xs) ≡ 92 ∷ 117 ∷ 123 ∷ ((hex b ++ 125 ∷ []) ++ ys) = rw (e, f) at is in
    let digits : (hex a ++ 125 ∷ []) ++ xs ≡ (hex b ++ 125 ∷ []) ++ ys = cc in
    hex-same a b xs ys (digits_of a h) (digits_of b k) (sym (append_assoc (hex a) (125 ∷ []) xs) ∙ digits ∙ append_assoc (hex b) (125 ∷ []) ys)
escaped-same a b xs ys (code e h) (plain f ne k) is =
    let bytes : 92 ∷ 117 ∷ 123 ∷ ((hex a ++ 125 ∷ []) ++ xs) ≡ b ∷ ys = rw (e, f) at is in
    absurd (ne cc)
escaped-same a b xs ys (plain e differs h) (letter d f ne n) is =
    let bytes : a ∷ xs ≡ 92 ∷ d ∷ ys = rw (e, f) at is in
    absurd (differs cc)
escaped-same a b xs ys (plain e differs h) (code f k) is =
    let bytes : a ∷ xs ≡ 92 ∷ 117 ∷ 123 ∷ ((hex b ++ 125 ∷ []) ++ ys) = rw (e, f) at is in
    absurd (differs cc)
escaped-same a b xs ys (plain e differs h) (plain f ne k) is =
    let bytes : a ∷ xs ≡ b ∷ ys = rw (e, f) at is in
    let same : a ≡ b = cc in
    let rest : xs ≡ ys = cc in
    (same, rest)

escaped-some : (b : ℕ) (xs : List ℕ) → Escape b → [] ≡ escaped b ++ xs → ⊥
escaped-some b xs (letter c e differs m) is = let bytes : [] ≡ 92 ∷ c ∷ xs = rw e at is in cc
escaped-some b xs (code e h) is = let bytes : [] ≡ 92 ∷ 117 ∷ 123 ∷ ((hex b ++ 125 ∷ []) ++ xs) = rw e at is in cc
escaped-some b xs (plain e differs h) is = let bytes : [] ≡ b ∷ xs = rw e at is in cc

pub escaped_text_same : (xs ys : List ℕ) → escaped_text xs ≡ escaped_text ys → xs ≡ ys
escaped_text_same [] [] is = refl
escaped_text_same [] (y ∷ ys) is = absurd (escaped-some y (escaped_text ys) (escape_of y) is)
escaped_text_same (x ∷ xs) [] is = absurd (escaped-some x (escaped_text xs) (escape_of x) (sym is))
escaped_text_same (x ∷ xs) (y ∷ ys) is =
    let parts = escaped-same x y (escaped_text xs) (escaped_text ys) (escape_of x) (escape_of y) is in
    let rest : xs ≡ ys = escaped_text_same xs ys parts.1 in
    let first : x ≡ y = parts.0 in
    cc

-- the last byte, or the one before them all
last_of : ℕ → List ℕ → ℕ
last_of p [] = p
last_of p (x ∷ xs) = last_of x xs

last_of-append : (p c : ℕ) (xs : List ℕ) → last_of p (xs ++ c ∷ []) ≡ c
unfolding last_of
last_of-append p c [] = refl
last_of-append p c (x ∷ xs) = last_of-append x c xs

-- each quote is right behind a backslash
guarded : ℕ → List ℕ → Bool
guarded p [] = true
guarded p (c ∷ cs) = (not (c == 34) || (p == 92)) && guarded c cs

guarded-other : (p c : ℕ) (cs : List ℕ) → c ≢ 34 → guarded c cs ≡ true → guarded p (c ∷ cs) ≡ true
unfolding guarded
guarded-other p c cs differs h = elim (eqb_tells c 34) [ inl is ↦ absurd (differs is.1) | inr other ↦ rw (other.0, h) refl ]

guarded-letter : (p c : ℕ) (cs : List ℕ) → guarded c cs ≡ true → guarded p (92 ∷ c ∷ cs) ≡ true
unfolding guarded
guarded-letter p c cs h = elim (c == 34) as (λ t. ((not t || true) && guarded c cs) ≡ true) [ true ↦ h | false ↦ h ]

guarded-hex : (p n : ℕ) (rest : List ℕ) → Digits n → guarded 125 rest ≡ true → guarded p (hex n ++ 125 ∷ rest) ≡ true
guarded-hex p n rest (one h e) g =
    rw e (guarded-other p (digit_char n) (125 ∷ rest) (omega (arith, (small_digit n h).0)) (guarded-other (digit_char n) 125 rest (omega arith) g))
guarded-hex p n rest (two h e) g =
    rw e (guarded-other p (digit_char (n / 16)) _ (omega (arith, (small_digit (n / 16) h).0))
    (guarded-other (digit_char (n / 16)) (digit_char (n % 16)) (125 ∷ rest) (omega (arith, (small_digit (n % 16) (omega arith)).0))
    (guarded-other (digit_char (n % 16)) 125 rest (omega arith) g)))

guarded-escaped : (p b : ℕ) (rest : List ℕ) → Escape b → ((q : ℕ) → guarded q rest ≡ true) → guarded p (escaped b ++ rest) ≡ true
guarded-escaped p b rest (letter c e differs m) g = rw e (guarded-letter p c rest (g c))
guarded-escaped p b rest (code e h) g =
    rw (e, append_assoc) (guarded-other p 92 _ (omega arith) (guarded-other 92 117 _ (omega arith) (guarded-other 117 123 _ (omega arith) (guarded-hex 123 b rest (digits_of b h) (g 125)))))
guarded-escaped p b rest (plain e differs ne) g = rw e (guarded-other p b rest ne (g b))

guarded-escaped_text : (p : ℕ) (bs : List ℕ) → guarded p (escaped_text bs) ≡ true
unfolding guarded
guarded-escaped_text p [] = refl
guarded-escaped_text p (b ∷ bs) = guarded-escaped p b (escaped_text bs) (escape_of b) (λ q. guarded-escaped_text q bs)

-- what stands before a quote in a guarded text
behind_quote : (p : ℕ) (xs ys : List ℕ) → guarded p (xs ++ 34 ∷ ys) ≡ true → last_of p xs ≡ 92
unfolding guarded last_of
behind_quote p [] ys h = eqb-true p 92 (and_parts (p == 92) _ h).0
behind_quote p (x ∷ xs) ys h = behind_quote x xs ys (and_parts (not (x == 34) || (p == 92)) _ h).1

-- the quote that opens the id is the only one behind a colon
opens : (p q : ℕ) (xs ys es fs : List ℕ) → ((r : ℕ) → guarded r es ≡ true) → ((r : ℕ) → guarded r fs ≡ true)
    → last_of p xs ≡ 58 → last_of q ys ≡ 58 → xs ++ 34 ∷ es ≡ ys ++ 34 ∷ fs → (xs ≡ ys) × (es ≡ fs)
unfolding last_of
opens p q [] [] es fs g h e f is = (refl, let rest : es ≡ fs = cc in rest)
opens p q [] (y ∷ ys) es fs g h e f is =
    let rest : es ≡ ys ++ 34 ∷ fs = cc in
    let slash : last_of y ys ≡ 92 = behind_quote y ys fs (rw rest at (g y)) in
    absurd (let two : 58 ≡ 92 = sym f ∙ slash in omega arith)
opens p q (x ∷ xs) [] es fs g h e f is =
    let rest : xs ++ 34 ∷ es ≡ fs = cc in
    let slash : last_of x xs ≡ 92 = behind_quote x xs es (rw (← rest) at (h x)) in
    absurd (let two : 58 ≡ 92 = sym e ∙ slash in omega arith)
opens p q (x ∷ xs) (y ∷ ys) es fs g h e f is =
    let first : x ≡ y = cc in
    let rest : xs ++ 34 ∷ es ≡ ys ++ 34 ∷ fs = cc in
    let parts = opens x y xs ys es fs g h e f rest in
    (let front : xs ≡ ys = parts.0 in cc, parts.1)

-- `::` ends in a colon
colons : List ℕ → List ℕ
colons t = t ++ 58 ∷ 58 ∷ []

last_of-colons : (t : List ℕ) → last_of 0 (colons t) ≡ 58
unfolding colons
last_of-colons t = rw (← append_assoc t (58 ∷ []) (58 ∷ [])) (last_of-append 0 58 (t ++ 58 ∷ []))

uid_text-is : (u : Uid) → uid_text u ≡ (colons (escaped_text u.type_name) ++ 34 ∷ escaped_text u.id) ++ 34 ∷ []
unfolding uid_text colons
uid_text-is u = simp append_assoc

colons-same : (s t : List ℕ) → colons s ≡ colons t → s ≡ t
unfolding colons
colons-same s t is = append_cancel_right s t (58 ∷ 58 ∷ []) is

pub uid_text_same : (a b : Uid) → uid_text a ≡ uid_text b → a ≡ b
uid_text_same a b is =
    let bytes : (colons (escaped_text a.type_name) ++ 34 ∷ escaped_text a.id) ++ 34 ∷ [] ≡ (colons (escaped_text b.type_name) ++ 34 ∷ escaped_text b.id) ++ 34 ∷ [] = sym (uid_text-is a) ∙ is ∙ uid_text-is b in
    let parts = opens 0 0 (colons (escaped_text a.type_name)) (colons (escaped_text b.type_name)) (escaped_text a.id) (escaped_text b.id)
    (λ r. guarded-escaped_text r a.id) (λ r. guarded-escaped_text r b.id) (last_of-colons (escaped_text a.type_name)) (last_of-colons (escaped_text b.type_name))
    (append_cancel_right (colons (escaped_text a.type_name) ++ 34 ∷ escaped_text a.id) (colons (escaped_text b.type_name) ++ 34 ∷ escaped_text b.id) (34 ∷ []) bytes) in
    let one_type : a.type_name ≡ b.type_name = escaped_text_same a.type_name b.type_name (colons-same (escaped_text a.type_name) (escaped_text b.type_name) parts.0) in
    let one_id : a.id ≡ b.id = escaped_text_same a.id b.id parts.1 in
    λ i. record { type_name = one_type i; id = one_id i }
