-- Which words are numbers within bounds.
use Rattle.std.proofs.Common.{◌≡◌, ◌≤◌, ◌<◌, ◌^◌, ℕ, List, [], ◌∷◌, true, false, Result, Ok, Err, refl, sym, ap, ◌∙◌, subst, arith}
use Rattle.std.specs.Char.{digit_value}
use Rattle.std.specs.Str.Parse.{IsNumeral, digits_value, without_leading_plus, ParsesUnsigned}
use Rattle.std.proofs.lemmas.Bool.Decides.{Decides-eqb}
use Rattle.sc_command.specs.CommandLine.{IsNumber, begins_with_plus}

pub plus-no-numeral : (bs : List ℕ) → begins_with_plus bs ≡ true → IsNumeral 10 bs → ⊥
plus-no-numeral [] e h = absurd cc
plus-no-numeral (c ∷ cs) e h =
    let plus : c ≡ 43 = (Decides-eqb c 43).0 e in
    let small : 36 < 10 = subst (λ x. digit_value x < 10) plus h.1.0 in
    omega arith

no-plus : (bs : List ℕ) → begins_with_plus bs ≡ false → without_leading_plus bs ≡ bs
no-plus [] e = refl
no-plus (c ∷ cs) e = rw e refl

-- what is read as a number of so many bits is one within bounds that it keeps
pub number-found : (bits low high : ℕ) (bs : List ℕ) (n : ℕ) → begins_with_plus bs ≡ false → (IsNumeral 10 (without_leading_plus bs) × (digits_value 10 (without_leading_plus bs) < 2 ^ bits)) × (n ≡ digits_value 10 (without_leading_plus bs))
    → low ≤ n → n ≤ high → IsNumber low high bs n
number-found bits low high bs n e h least most =
    let same = no-plus bs e in
    record { digits = subst (IsNumeral 10) same h.0.0; value = ap (digits_value 10) (sym same) ∙ sym h.1; least = least; most = most }

-- and a number within bounds of so many bits is read
pub number-read : (bits low high : ℕ) (bs : List ℕ) (E : Type 0) (r : Result ℕ E) → high < 2 ^ bits → begins_with_plus bs ≡ false → ParsesUnsigned bits 10 bs r → (n : ℕ) → IsNumber low high bs n → r ≡ Ok n
number-read bits low high bs E (Ok m) room e h n b = ap Ok (h.1 ∙ ap (digits_value 10) (no-plus bs e) ∙ b.value)
number-read bits low high bs E (Err x) room e h n b =
    let same = no-plus bs e in
    let most = b.most in
    let small : digits_value 10 (without_leading_plus bs) < 2 ^ bits = rw (same, b.value) (omega (arith, most, room)) in
    absurd (h (subst (IsNumeral 10) (sym same) b.digits, small))

-- a number of 32 bits
pub place-found : (bs : List ℕ) (n : ℕ) → begins_with_plus bs ≡ false → (IsNumeral 10 (without_leading_plus bs) × (digits_value 10 (without_leading_plus bs) < 2 ^ 32)) × (n ≡ digits_value 10 (without_leading_plus bs)) → IsNumber 0 4294967295 bs n
place-found bs n e h =
    let within = h.0.1 in
    let is = h.1 in
    number-found 32 0 4294967295 bs n e h (omega arith) (omega (arith, within, is))
