-- What a string of a JSON text in UTF-8 stands for is UTF-8.
use Rattle.std.proofs.Common.{◌≡◌, ◌∙◌, ℕ, zero, suc, ◌+◌, ◌*◌, ◌<◌, ◌≤◌, nat_lt, List, [], ◌∷◌, ◌++◌, length, get_or, length-append, true, false, ◌==◌, ◌||◌, ◌&&◌, cond, Option, Some, None, IsUtf8, refl, sym, ap, subst, arith, inl, inr}
use Rattle.std.specs.Prelude.{⊤, option_and_then}
use Rattle.std.specs.Char.{IsScalar, is_digit, digit_value, encode_utf8}
use Rattle.std.specs.Str.{encode_utf8_all}
use Rattle.std.proofs.lemmas.Bool.{cond_both, and_parts, eqb-true, ltb-true, ne_eqb, le-ltb, cases_lt}
use Rattle.std.proofs.lemmas.Bool.Decides.{nat_tests}
use Rattle.std.proofs.lemmas.Str.{IsUtf8-encode, IsUtf8-append, IsUtf8-nil, IsUtf8-past_char, encode_ascii, length-encode, len_utf8_bounds}
use Rattle.sc_lists.proofs.TextLaws.{high_byte}
use lib.Utf8.{scalar, scalars}
use Rattle.json.specs.Text.{code_unit, short_escape, is_high_surrogate, is_low_surrogate, surrogate_pair, plain, after_backslash, after_u, after_high, prepend, content}

-- a text, if there is one, is UTF-8
abbrev pub IfText : Option (List ℕ) → Type 0
IfText None = ⊤
IfText (Some s) = IsUtf8 s

-- ---- parts of a text

-- what follows an ASCII byte of a text
pub past_ascii : (x : ℕ) (xs : List ℕ) → x < 128 → IsUtf8 (x ∷ xs) → IsUtf8 xs
past_ascii x xs low u = IsUtf8-past_char (x ∷ xs) xs x u (ap (λ (bs : List ℕ). bs ++ xs) (sym (encode_ascii x low)))

one_byte : (x : ℕ) → x < 128 → IsUtf8 (x ∷ [])
one_byte x low = subst IsUtf8 (encode_ascii x low) (IsUtf8-encode x (grind (arith, nat_tests)))

pub put_before : (bs : List ℕ) (rest : Option (List ℕ)) → IsUtf8 bs → IfText rest → IfText (prepend bs rest)
put_before bs None h t = tt
put_before bs (Some s) h t = IsUtf8-append bs s h t

-- ---- escapes

-- an escape's letter and the character that it stands for are ASCII
abbrev AreLow : ℕ → Option ℕ → Type 0
AreLow x None = ⊤
AreLow x (Some c) = (x < 128) × (c < 128)

low_letter : (x k c : ℕ) (later : Option ℕ) → k < 128 → c < 128 → AreLow x later → AreLow x (cond (x == k) (Some c) later)
low_letter x k c later p q h = cond_both (x == k) (Some c) later (AreLow x) (λ e. let same : x ≡ k = eqb-true x k e in (omega arith, q)) (λ _. h)

low_escape : (x : ℕ) → AreLow x (short_escape x)
unfolding short_escape
low_escape x =
    let itself : (e : ((x == 34) || (x == 92) || (x == 47)) ≡ true) → x < 128 = λ e. grind (arith, nat_tests) in
    cond_both ((x == 34) || (x == 92) || (x == 47)) (Some x) _ (AreLow x) (λ e. (itself e, itself e))
    (λ _. low_letter x 98 8 _ (omega arith) (omega arith) (low_letter x 102 12 _ (omega arith) (omega arith) (low_letter x 110 10 _ (omega arith) (omega arith)
    (low_letter x 114 13 _ (omega arith) (omega arith) (low_letter x 116 9 None (omega arith) (omega arith) tt)))))

-- four hexadecimal digits are ASCII, and their number has 16 bits
pub record AreDigits (a b c d u : ℕ) : Type 0 where
  pub first : a < 128
  pub second : b < 128
  pub third : c < 128
  pub last : d < 128
  pub number : u < 65536

low_digit : (a : ℕ) → is_digit a 16 ≡ true → a < 128
low_digit a e = grind (arith, nat_tests)

abbrev IfDigits : ℕ → ℕ → ℕ → ℕ → Option ℕ → Type 0
IfDigits a b c d None = ⊤
IfDigits a b c d (Some u) = AreDigits a b c d u

digits : (a b c d : ℕ) → IfDigits a b c d (code_unit a b c d)
unfolding code_unit
digits a b c d =
    cond_both (is_digit a 16 && is_digit b 16 && is_digit c 16 && is_digit d 16) (Some (digit_value a * 4096 + digit_value b * 256 + digit_value c * 16 + digit_value d)) None (IfDigits a b c d)
    (λ e.
    let p = and_parts (is_digit a 16 && is_digit b 16 && is_digit c 16) (is_digit d 16) e in
    let q = and_parts (is_digit a 16 && is_digit b 16) (is_digit c 16) p.0 in
    let r = and_parts (is_digit a 16) (is_digit b 16) q.0 in
    let la = ltb-true (digit_value a) 16 r.0 in
    let lb = ltb-true (digit_value b) 16 r.1 in
    let lc = ltb-true (digit_value c) 16 q.1 in
    let ld = ltb-true (digit_value d) 16 p.1 in
    record { first = low_digit a r.0; second = low_digit b r.1; third = low_digit c q.1; last = low_digit d p.1; number = omega arith })
    (λ _. tt)

alone : (u : ℕ) → u < 65536 → is_high_surrogate u ≡ false → is_low_surrogate u ≡ false → IsScalar u
alone u n high low = grind (arith, nat_tests)

paired : (h l : ℕ) → is_high_surrogate h ≡ true → is_low_surrogate l ≡ true → IsScalar (surrogate_pair h l)
paired h l high low = grind (arith, nat_tests)

-- ---- what a string stands for

-- what follows a backslash and four digits
module _ (m : ℕ) (later : (ys : List ℕ) → length ys ≤ m → IsUtf8 ys → IfText (content plain ys)) where
  four_past : (a b c d u : ℕ) (xs : List ℕ) → AreDigits a b c d u → IsUtf8 (a ∷ b ∷ c ∷ d ∷ xs) → IsUtf8 xs
  four_past a b c d u xs n t = past_ascii d xs n.last (past_ascii c (d ∷ xs) n.third (past_ascii b (c ∷ d ∷ xs) n.second (past_ascii a (b ∷ c ∷ d ∷ xs) n.first t)))

  low_half : (h : ℕ) → is_high_surrogate h ≡ true → (a b c d : ℕ) (xs : List ℕ) → length xs ≤ m → IsUtf8 (a ∷ b ∷ c ∷ d ∷ xs) → (o : Option ℕ) → IfDigits a b c d o
      → IfText (option_and_then (λ l. cond (is_low_surrogate l) (prepend (encode_utf8 (surrogate_pair h l)) (content plain xs)) None) o)
  low_half h high a b c d xs short t None n = tt
  low_half h high a b c d xs short t (Some l) n =
      cond_both (is_low_surrogate l) (prepend (encode_utf8 (surrogate_pair h l)) (content plain xs)) None IfText
      (λ low. put_before (encode_utf8 (surrogate_pair h l)) (content plain xs) (IsUtf8-encode (surrogate_pair h l) (paired h l high low)) (later xs short (four_past a b c d l xs n t)))
      (λ _. tt)

  second_escape : (h : ℕ) → is_high_surrogate h ≡ true → (xs : List ℕ) → length xs ≤ m → IsUtf8 xs → IfText (content (after_high h) xs)
  unfolding content
  second_escape h high [] short t = tt
  second_escape h high (s ∷ []) short t = tt
  second_escape h high (s ∷ u ∷ []) short t = tt
  second_escape h high (s ∷ u ∷ a ∷ []) short t = tt
  second_escape h high (s ∷ u ∷ a ∷ b ∷ []) short t = tt
  second_escape h high (s ∷ u ∷ a ∷ b ∷ c ∷ []) short t = tt
  second_escape h high (s ∷ u ∷ a ∷ b ∷ c ∷ d ∷ xs) short t =
      cond_both ((s == 92) && (u == 117)) _ None IfText
      (λ e.
      let both = and_parts (s == 92) (u == 117) e in
      let is_s : s ≡ 92 = eqb-true s 92 both.0 in
      let is_u : u ≡ 117 = eqb-true u 117 both.1 in
      low_half h high a b c d xs (omega arith) (past_ascii u (a ∷ b ∷ c ∷ d ∷ xs) (omega arith) (past_ascii s (u ∷ a ∷ b ∷ c ∷ d ∷ xs) (omega arith) t)) (code_unit a b c d) (digits a b c d))
      (λ _. tt)

  first_half : (a b c d : ℕ) (xs : List ℕ) → length xs ≤ m → IsUtf8 (a ∷ b ∷ c ∷ d ∷ xs) → (o : Option ℕ) → IfDigits a b c d o
      → IfText (option_and_then (λ u. cond (is_high_surrogate u) (content (after_high u) xs) (cond (is_low_surrogate u) None (prepend (encode_utf8 u) (content plain xs)))) o)
  first_half a b c d xs short t None n = tt
  first_half a b c d xs short t (Some u) n =
      let rest = four_past a b c d u xs n t in
      cond_both (is_high_surrogate u) (content (after_high u) xs) _ IfText (λ high. second_escape u high xs short rest)
      (λ high. cond_both (is_low_surrogate u) None (prepend (encode_utf8 u) (content plain xs)) IfText (λ _. tt)
      (λ low. put_before (encode_utf8 u) (content plain xs) (IsUtf8-encode u (alone u n.number high low)) (later xs short rest)))

  first_escape : (xs : List ℕ) → length xs ≤ m → IsUtf8 xs → IfText (content after_u xs)
  unfolding content
  first_escape [] short t = tt
  first_escape (a ∷ []) short t = tt
  first_escape (a ∷ b ∷ []) short t = tt
  first_escape (a ∷ b ∷ c ∷ []) short t = tt
  first_escape (a ∷ b ∷ c ∷ d ∷ xs) short t = first_half a b c d xs (omega arith) t (code_unit a b c d) (digits a b c d)

  letter : (x : ℕ) (xs : List ℕ) → length xs ≤ m → IsUtf8 (x ∷ xs) → (o : Option ℕ) → AreLow x o → IfText (option_and_then (λ c. prepend (c ∷ []) (content plain xs)) o)
  letter x xs short t None low = tt
  letter x xs short t (Some c) low = put_before (c ∷ []) (content plain xs) (one_byte c low.1) (later xs short (past_ascii x xs low.0 t))

  escape : (xs : List ℕ) → length xs ≤ m → IsUtf8 xs → IfText (content after_backslash xs)
  unfolding content
  escape [] short t = tt
  escape (x ∷ xs) short t =
      cond_both (x == 117) (content after_u xs) _ IfText
      (λ e. let same : x ≡ 117 = eqb-true x 117 e in first_escape xs (omega arith) (past_ascii x xs (omega arith) t))
      (λ _. letter x xs (omega arith) t (short_escape x) (low_escape x))

-- ---- characters that stand for themselves

put_twice : (x : ℕ) (bs : List ℕ) (rest : Option (List ℕ)) → prepend (x ∷ []) (prepend bs rest) ≡ prepend (x ∷ bs) rest
put_twice x bs None = refl
put_twice x bs (Some s) = refl

put_none : (rest : Option (List ℕ)) → rest ≡ prepend [] rest
put_none None = refl
put_none (Some s) = refl

high_bytes : (bs rest : List ℕ) → ((k : ℕ) → k < length bs → 128 ≤ get_or bs k 0) → content plain (bs ++ rest) ≡ prepend bs (content plain rest)
unfolding content
high_bytes [] rest high = put_none (content plain rest)
high_bytes (x ∷ bs) rest high =
    let above : 128 ≤ x = high 0 (omega arith) in
    rw (ne_eqb x 34 (λ e. omega arith), ne_eqb x 92 (λ e. omega arith), le-ltb x 32 (omega arith), high_bytes bs rest (λ k within. high (suc k) (omega arith)))
    (put_twice x bs (content plain rest))

step : (m : ℕ) → ((ys : List ℕ) → length ys ≤ m → IsUtf8 ys → IfText (content plain ys)) → (xs : List ℕ) → length xs ≤ suc m → (c : ℕ) (cs : List ℕ) → scalars (c ∷ cs) ≡ true → encode_utf8_all (c ∷ cs) ≡ xs → IfText (content plain xs)
unfolding content
step m later xs short c cs are is = elim (cases_lt c 128) [
  | inl low ↦
      let split : c ∷ encode_utf8_all cs ≡ xs = ap (λ (bs : List ℕ). bs ++ encode_utf8_all cs) (sym (encode_ascii c low)) ∙ is in
      let t : IsUtf8 (c ∷ encode_utf8_all cs) = (c ∷ cs, (are, is ∙ sym split)) in
      let rest = past_ascii c (encode_utf8_all cs) low t in
      let fewer : length (encode_utf8_all cs) ≤ m = omega (arith, ap length split) in
      subst (λ (ys : List ℕ). IfText (content plain ys)) split
      (cond_both (c == 34) (Some []) _ IfText (λ _. IsUtf8-nil) (λ _. cond_both (c == 92) (content after_backslash (encode_utf8_all cs)) _ IfText (λ _. escape m later (encode_utf8_all cs) fewer rest)
      (λ _. cond_both (nat_lt c 32) None _ IfText (λ _. tt) (λ _. put_before (c ∷ []) (content plain (encode_utf8_all cs)) (one_byte c low) (later (encode_utf8_all cs) fewer rest)))))
  | inr high ↦
      let t : IsUtf8 (encode_utf8 c ++ encode_utf8_all cs) = (c ∷ cs, (are, refl)) in
      let rest = IsUtf8-past_char (encode_utf8 c ++ encode_utf8_all cs) (encode_utf8_all cs) c t refl in
      let fewer : length (encode_utf8_all cs) ≤ m = omega (arith, ap length is, length-append (encode_utf8 c) (encode_utf8_all cs), length-encode c, len_utf8_bounds c) in
      subst (λ (ys : List ℕ). IfText (content plain ys)) is
      (subst IfText (sym (high_bytes (encode_utf8 c) (encode_utf8_all cs) (λ k within. high_byte c k high within)))
      (put_before (encode_utf8 c) (content plain (encode_utf8_all cs)) (IsUtf8-encode c (and_parts (scalar c) (scalars cs) are).0) (later (encode_utf8_all cs) fewer rest)))
]

within : (n : ℕ) (xs : List ℕ) → length xs ≤ n → IsUtf8 xs → IfText (content plain xs)
unfolding content
within n [] short t = tt
within zero (x ∷ xs) short t = absurd (omega arith)
within (suc n) (x ∷ xs) short ([], t) = absurd (omega (arith, ap length t.1))
within (suc n) (x ∷ xs) short (c ∷ cs, t) = step n (within n) (x ∷ xs) short c cs t.0 t.1

-- what a string stands for, whose text begins after its first quote
pub string_text : (xs : List ℕ) → IsUtf8 xs → IfText (content plain xs)
string_text xs t = within (length xs) xs (omega arith) t
