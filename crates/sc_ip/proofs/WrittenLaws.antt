-- The written text, and that it stands for the address.
use Rattle.std.proofs.Common.{◌≡◌, ℕ, zero, suc, ◌+◌, ◌*◌, ◌/◌, ◌%◌, ◌^◌, ◌<◌, ◌≤◌, List, [], ◌∷◌, ◌++◌, length, map, refl, arith, lit<, lit≤, ap, sym, ◌∙◌, subst, append_assoc, Bool, true, false, cond, eqb, true≢false, Result, Ok, Err, IfOk}
use Rattle.std.specs.List.{join_with_byte}
use Rattle.std.specs.Fmt.{decimal, digits, digits_onto, digit_glyph}
use Rattle.std.specs.Int.Digits.{number_from_digits}
use Rattle.std.proofs.lemmas.Fmt.{digits_is_IsNumeral}
use Rattle.std.proofs.lemmas.Bool.{eq-eqb}
use Rattle.std.proofs.lemmas.Nat.{div_below, div-add-mod'}
use Rattle.std.proofs.Math.Nat.{div-one, pow-suc, pow-le-pow_right, div-div-eq-div-mul, mod-eq_of_lt}
use Rattle.sc_ip.specs.declared.ip.Ip.{Ip}
use Rattle.sc_ip.specs.declared.ip.Ip.TheVariants.{V4, V6}
use Rattle.sc_ip.specs.Addresses.{IsIp}
use Rattle.sc_ip.specs.IpText.{IsDecimalGroup, IsHexadecimalGroup, IsV4Text, IsFullText, full, v4, v6, IsIpText, prefixed, bytes_of, groups_of, ip_text}

-- the four groups and the prefix, as the pieces are written
join_four : (s : ℕ) (a b c d t : List ℕ) → a ++ (s ∷ (b ++ (s ∷ (c ++ (s ∷ (d ++ t)))))) ≡ join_with_byte s (a ∷ b ∷ c ∷ d ∷ []) ++ t
join_four s a b c d t = simp append_assoc

join_eight : (s : ℕ) (a b c d e f g h t : List ℕ) → a ++ (s ∷ (b ++ (s ∷ (c ++ (s ∷ (d ++ (s ∷ (e ++ (s ∷ (f ++ (s ∷ (g ++ (s ∷ (h ++ t)))))))))))))) ≡ join_with_byte s (a ∷ b ∷ c ∷ d ∷ e ∷ f ∷ g ∷ h ∷ []) ++ t
join_eight s a b c d e f g h t = simp append_assoc

pub v4_written : {S E : Type 0} (bytes : S → List ℕ) (r : Result S E) (a p : ℕ)
    → IfOk r (λ s. bytes s ≡ decimal (a / 16777216 % 256) ++ (46 ∷ (decimal (a / 65536 % 256) ++ (46 ∷ (decimal (a / 256 % 256) ++ (46 ∷ (decimal (a % 256) ++ (47 ∷ decimal p))))))))
    → IfOk r (λ s. bytes s ≡ ip_text (V4 a p))
v4_written bytes (Err e) a p h = tt
v4_written bytes (Ok s) a p h =
    h ∙ (join_four 46 (decimal (a / 16777216 % 256)) (decimal (a / 65536 % 256)) (decimal (a / 256 % 256)) (decimal (a % 256)) (47 ∷ decimal p)
    ∙ ap (λ k. join_with_byte 46 (decimal (a / 16777216 % 256) ∷ decimal (a / 65536 % 256) ∷ decimal (a / 256 % 256) ∷ decimal (k % 256) ∷ []) ++ (47 ∷ decimal p)) (sym (div-one a)))

-- a place's worth fits, and is not zero
pub place_fits : (k : ℕ) → k < 8 → 65536 ^ k < 2 ^ 128
place_fits k h =
    let le : k ≤ 7 = omega arith in
    let up : 65536 ^ k ≤ 65536 ^ 7 = pow-le-pow_right {n = 65536} (lit< tt) le in
    omega arith

pub place_some : (k : ℕ) → 0 < 65536 ^ k
place_some k =
    let le : 0 ≤ k = omega arith in
    let up : 65536 ^ 0 ≤ 65536 ^ k = pow-le-pow_right {n = 65536} (lit< tt) le in
    omega arith

pub v6_written : {S E : Type 0} (bytes : S → List ℕ) (r : Result S E) (a b c d e f g h t : List ℕ)
    → IfOk r (λ s. bytes s ≡ (a ++ (58 ∷ (b ++ (58 ∷ (c ++ (58 ∷ (d ++ (58 ∷ (e ++ (58 ∷ (f ++ (58 ∷ [])))))))))))) ++ (g ++ (58 ∷ (h ++ (47 ∷ t)))))
    → IfOk r (λ s. bytes s ≡ join_with_byte 58 (a ∷ b ∷ c ∷ d ∷ e ∷ f ∷ g ∷ h ∷ []) ++ (47 ∷ t))
v6_written bytes (Err lost) a b c d e f g h t is = tt
v6_written bytes (Ok s) a b c d e f g h t is = is ∙ simp append_assoc

-- a number has at most as many hexadecimal digits as its bound
cond-le : (b : Bool) (x y : List ℕ) (m : ℕ) → length x ≤ m → (b ≡ false → length y ≤ m) → length (cond b x y) ≤ m
cond-le true x y m p q = p
cond-le false x y m p q = q refl

digits_onto-le : (j k n : ℕ) (acc : List ℕ) → n < 16 ^ suc j → j < k → length (digits_onto k 16 false n acc) ≤ suc j + length acc
digits_onto-le j zero n acc h l = absurd (omega arith)
digits_onto-le zero (suc k) n acc h l =
    cond-le (eqb (n / 16) 0) _ _ _ (omega arith) (λ f. absurd (true≢false (sym (eq-eqb (n / 16) 0 (omega arith)) ∙ f)))
digits_onto-le (suc j) (suc k) n acc h l =
    let e : 16 ^ suc (suc j) ≡ 16 ^ suc j * 16 = pow-suc 16 (suc j) in
    let up : n / 16 < 16 ^ suc j = div_below n 16 (16 ^ suc j) (lit< tt) (omega arith) in
    cond-le (eqb (n / 16) 0) _ _ _ (omega arith) (λ f. (let i = digits_onto-le j k (n / 16) (digit_glyph false (n % 16) ∷ acc) up (omega arith) in omega arith))

hexadecimal-le : (n : ℕ) → n < 65536 → length (digits 16 false n) ≤ 4
unfolding digits
hexadecimal-le n h = let i = digits_onto-le 3 64 n [] (omega arith) (lit< tt) in omega arith

hexadecimal_group : (n : ℕ) → n < 65536 → IsHexadecimalGroup (digits 16 false n) n
hexadecimal_group n h =
    let d = digits_is_IsNumeral 16 false (lit≤ tt) (lit≤ tt) n (omega arith) in
    (d.0, hexadecimal-le n h, sym d.1)

decimal_group : (n : ℕ) → n < 256 → IsDecimalGroup (decimal n) n
decimal_group n h = (h, refl)

-- the written groups of an address make it again
bytes_make : (a : ℕ) → a < 2 ^ 32 → a ≡ number_from_digits 256 (bytes_of a)
bytes_make a h = let one = div-one a in omega arith

v4_reads : (a : ℕ) → a < 2 ^ 32 → IsV4Text (join_with_byte 46 (map decimal (bytes_of a))) a
v4_reads a h = record {
  numbers = bytes_of a;
  groups = (_, _, refl, decimal_group _ (omega arith), (_, _, refl, decimal_group _ (omega arith), (_, _, refl, decimal_group _ (omega arith), decimal_group _ (omega arith))));
  four = refl;
  value = bytes_make a h;
}

digit_step : (a m : ℕ) → a / m ≡ a / (m * 65536) * 65536 + a / m % 65536
digit_step a m =
    let e = div-div-eq-div-mul a m 65536 in
    let d = div-add-mod' (a / m) 65536 in
    sym (ap (λ k. k * 65536 + a / m % 65536) (sym e) ∙ d)

chain : (q r s t u v w x a b c d e f g h : ℕ) → a ≡ q → b ≡ a * 65536 + r → c ≡ b * 65536 + s → d ≡ c * 65536 + t → e ≡ d * 65536 + u → f ≡ e * 65536 + v → g ≡ f * 65536 + w → h ≡ g * 65536 + x
    → h ≡ (((((((0 * 65536 + q) * 65536 + r) * 65536 + s) * 65536 + t) * 65536 + u) * 65536 + v) * 65536 + w) * 65536 + x
chain q r s t u v w x a b c d e f g h i j k l m n o p = omega arith

groups_make : (a : ℕ) → a < 2 ^ 128 → a ≡ number_from_digits 65536 (groups_of a)
groups_make a h =
    let top : a / 65536 ^ 7 < 65536 = div_below a (65536 ^ 7) 65536 (lit< tt) h in
    let first : a / 65536 ^ 7 ≡ a / 65536 ^ 7 % 65536 = sym (mod-eq_of_lt top) in
    sym (div-one a) ∙ chain _ _ _ _ _ _ _ _ (a / 65536 ^ 7) (a / 65536 ^ 6) (a / 65536 ^ 5) (a / 65536 ^ 4) (a / 65536 ^ 3) (a / 65536 ^ 2) (a / 65536 ^ 1) (a / 65536 ^ 0)
    first (digit_step a (65536 ^ 6)) (digit_step a (65536 ^ 5)) (digit_step a (65536 ^ 4)) (digit_step a (65536 ^ 3)) (digit_step a (65536 ^ 2)) (digit_step a (65536 ^ 1)) (digit_step a (65536 ^ 0))

rest-lt : (n : ℕ) → n % 65536 < 65536
rest-lt n = omega arith

v6_reads : (a : ℕ) → a < 2 ^ 128 → IsFullText (join_with_byte 58 (map (digits 16 false) (groups_of a))) a
v6_reads a h = record {
  numbers = groups_of a;
  groups = (
    _,
    _,
    refl,
    hexadecimal_group _ (rest-lt _),
    (
      _,
      _,
      refl,
      hexadecimal_group _ (rest-lt _),
      (
        _,
        _,
        refl,
        hexadecimal_group _ (rest-lt _),
        (
          _,
          _,
          refl,
          hexadecimal_group _ (rest-lt _),
          (_, _, refl, hexadecimal_group _ (rest-lt _), (_, _, refl, hexadecimal_group _ (rest-lt _), (_, _, refl, hexadecimal_group _ (rest-lt _), hexadecimal_group _ (rest-lt _)))),
        ),
      ),
    ),
  );
  eight = refl;
  value = groups_make a h;
}

-- what is written of an address reads as it
pub text_reads : (a : Ip) → IsIp a → IsIpText (ip_text a) a
text_reads (V4 address prefix) h = prefixed {b = V4 address 32} refl (v4 (v4_reads address h.0) refl) h.1 refl
text_reads (V6 address prefix) h = prefixed {b = V6 address 128} refl (v6 (full (v6_reads address h.0)) refl) h.1 refl

pub reads_back : {S E : Type 0} (bytes : S → List ℕ) (r : Result S E) (a : Ip) → IsIp a → IfOk r (λ s. bytes s ≡ ip_text a) → IfOk r (λ s. IsIpText (bytes s) a)
reads_back bytes (Err e) a proper h = tt
reads_back bytes (Ok s) a proper h = let P : List ℕ → Type 0 = λ t. IsIpText t a in subst P (sym h) (text_reads a proper)
