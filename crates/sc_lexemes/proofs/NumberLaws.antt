-- The numbers that digits write.
use Rattle.std.proofs.Common.{◌≡◌, ℕ, ◌+◌, ◌*◌, ◌<◌, List, length, get_or, take, true, refl, sym, arith}
use Rattle.std.proofs.lemmas.Bool.Decides.{nat_tests}
use Rattle.std.specs.Char.{digit_value}
use Rattle.std.specs.Str.Parse.{digits_value}
use Rattle.std.proofs.lemmas.Int.Digits.{digits_value_more}
use Rattle.std.proofs.lemmas.Str.Parse.{digits_value-take-le}
use Rattle.sc_lexemes.specs.Tables.{is_long}

pub no_digit : (c : ℕ) → (digit_value c < 36 → ⊥) → digit_value c ≡ 36
no_digit c h = grind (arith, nat_tests)

pub value_more : (n x i : ℕ) (bs : List ℕ) → n ≡ digits_value 10 (take i bs) → i < length bs → x ≡ get_or bs i 0 → n * 10 + digit_value x ≡ digits_value 10 (take (i + 1) bs)
value_more n x i bs e lt is = rw (digits_value_more 10 bs i lt, sym e, sym is) refl

-- a part is large already
pub large : (n x d i : ℕ) (bs : List ℕ) → n ≡ digits_value 10 (take i bs) → i < length bs → x ≡ get_or bs i 0 → d ≡ digit_value x → 9223372036854775807 < n * 10 + d → is_long (digits_value 10 bs) ≡ true → ⊥
large n x d i bs e lt is digit over h =
    let value = value_more n x i bs e lt is in
    let part = digits_value-take-le 10 bs (i + 1) (omega arith) in
    grind (arith, nat_tests)
