-- Groups of either notation: how they read, and which bytes they lack.
use Rattle.std.proofs.Common.{◌≡◌, ◌≢◌, ℕ, ◌<◌, ◌≤◌, List, [], ◌∷◌, length, get_or, Result, Ok, Err, arith, lit<, ap, sym, ◌∙◌, subst, ⊎_elim, IfSome, IfNone}
use Rattle.std.specs.Str.Parse.{IsNumeral, AllDigits, digits_value, ParsesUnsigned}
use Rattle.std.specs.Fmt.{decimal}
use Rattle.std.specs.Result.{result_ok}
use Rattle.std.proofs.lemmas.Str.Parse.{numerals_by_value, tells_digits, parse_plain, digit_at}
use Rattle.std.proofs.lemmas.Fmt.{decimal_digit, decimal_is_IsNumeral, decimal-digits_value, first_decimal}
use Rattle.std.proofs.lemmas.Int.Digits.{digits_value-lt}
use Rattle.std.proofs.lemmas.Str.Parse.{without_leading_plus_none}
use Rattle.std.proofs.lemmas.Bool.{cases_lt}
use Rattle.sc_ip.specs.IpText.{IsHexadecimalGroup}

-- the number of a text that neither a plus nor a needless zero begins
pub number_reads : {E : Type 0} (bs : List ℕ) (r : Result ℕ E) → get_or bs 0 0 ≢ 43 → (1 < length bs → get_or bs 0 0 ≢ 48) → ParsesUnsigned 8 10 bs r
    → IfSome (result_ok r) (λ n. bs ≡ decimal n) × IfNone (result_ok r) ((n : ℕ) → n < 256 → bs ≡ decimal n → ⊥)
number_reads {E} bs (Ok x) plus lead h =
    let own = numerals_by_value (AllDigits 10) tells_digits in
    let p = parse_plain own {E = E} 8 bs (Ok x) h plus in
    let one : get_or bs 0 0 ≡ 48 → length bs ≡ 1 = λ z. ⊎_elim (λ more. absurd (lead more z)) (λ less. (let some = p.0.1 in omega arith)) (cases_lt 1 (length bs)) in
    let back : decimal (digits_value 10 bs) ≡ bs = decimal-digits_value own bs p.0.0 p.0.1 one (let small = p.0.2 in omega arith) in
    (sym back ∙ ap decimal (sym p.1), tt)
number_reads {E} bs (Err e) plus lead h =
    let own = numerals_by_value (AllDigits 10) tells_digits in
    let p = parse_plain own {E = E} 8 bs (Err e) h plus in (
      tt,
      λ n small is.
          let d = decimal_is_IsNumeral n (omega arith) in
          let P : List ℕ → Type 0 = λ l. IsNumeral 10 l × (digits_value 10 l ≡ n) in
          let b = subst P (sym is) d in
          p (b.0.1, b.0.0, (let v = b.1 in omega arith)),
    )

-- a decimal text begins with no plus, and with a zero only alone
pub no_plus : (bs : List ℕ) (n : ℕ) → n < 256 → bs ≡ decimal n → get_or bs 0 0 ≢ 43
no_plus bs n small is =
    let d = decimal_is_IsNumeral n (omega arith) in
    let r = digit_at (decimal n) 0 d.0.1 d.0.0 in
    λ e. let f : get_or bs 0 0 ≡ get_or (decimal n) 0 0 = ap (λ l. get_or l 0 0) is in omega arith

pub no_zero : (bs : List ℕ) (n : ℕ) → n < 256 → bs ≡ decimal n → 1 < length bs → get_or bs 0 0 ≢ 48
no_zero bs n small is long e =
    let f : get_or bs 0 0 ≡ get_or (decimal n) 0 0 = ap (λ l. get_or l 0 0) is in
    let g : length bs ≡ length (decimal n) = ap length is in
    ⊎_elim (λ less. (let h : length (decimal n) ≡ 1 = ap length (decimal_digit n less) in omega arith)) (λ more. (let h = first_decimal n (omega arith) (omega arith) in omega arith)) (cases_lt n 10)

-- four hexadecimal digits at most are below 65536
pub hexadecimal-lt : (ds : List ℕ) → AllDigits 16 ds → length ds ≤ 4 → digits_value 16 ds < 65536
hexadecimal-lt [] all short = lit< tt
hexadecimal-lt (a ∷ []) all short = let h = digits_value-lt 16 (a ∷ []) all in omega arith
hexadecimal-lt (a ∷ b ∷ []) all short = let h = digits_value-lt 16 (a ∷ b ∷ []) all in omega arith
hexadecimal-lt (a ∷ b ∷ c ∷ []) all short = let h = digits_value-lt 16 (a ∷ b ∷ c ∷ []) all in omega arith
hexadecimal-lt (a ∷ b ∷ c ∷ d ∷ []) all short = let h = digits_value-lt 16 (a ∷ b ∷ c ∷ d ∷ []) all in omega arith
hexadecimal-lt (a ∷ b ∷ c ∷ d ∷ e ∷ ds) all short = absurd (omega arith)

pub hexadecimal_none : {E : Type 0} (bs : List ℕ) (r : Result ℕ E) → get_or bs 0 0 ≢ 43 → ParsesUnsigned 16 16 bs r → IfNone (result_ok r) ((n : ℕ) → IsHexadecimalGroup bs n → ⊥)
hexadecimal_none bs (Ok x) plus h = tt
hexadecimal_none bs (Err e) plus h = λ n g.
    let same = without_leading_plus_none bs plus in
    let P : List ℕ → Type 0 = λ l. IsNumeral 16 l × (digits_value 16 l < 65536) in
    h (subst P (sym same) (g.0, hexadecimal-lt bs g.0.1 g.1))
