-- Hexadecimal digits.
use Rattle.std.proofs.Common.{◌≡◌, ℕ, zero, suc, ◌+◌, ◌*◌, ◌^◌, ◌<◌, ◌≤◌, List, [], ◌∷◌, length, get_or, true, arith, add-one}
use Rattle.std.proofs.Math.Nat.{pow-suc}
use Rattle.std.specs.Char.{is_ascii_hexdigit}
use Rattle.std.specs.List.{list_all}
use Rattle.sc_laws.proofs.BoolLaws.{and_second, and_first}

-- each of some digits is one
pub digit_at : (ds : List ℕ) (i : ℕ) → list_all is_ascii_hexdigit ds ≡ true → i < length ds → is_ascii_hexdigit (get_or ds i 0) ≡ true
digit_at [] i h k = absurd (omega arith)
digit_at (d ∷ ds) zero h k = and_first (is_ascii_hexdigit d) (list_all is_ascii_hexdigit ds) h
digit_at (d ∷ ds) (suc i) h k = digit_at ds i (and_second (is_ascii_hexdigit d) (list_all is_ascii_hexdigit ds) h) (omega arith)

-- the number of fewer than six digits is small
pub value_small : (v i n : ℕ) → v < 16 ^ i → i < n → n ≤ 6 → v < 1048576
value_small v zero n h k l = omega arith
value_small v (suc zero) n h k l = omega arith
value_small v (suc (suc zero)) n h k l = omega arith
value_small v (suc (suc (suc zero))) n h k l = omega arith
value_small v (suc (suc (suc (suc zero)))) n h k l = omega arith
value_small v (suc (suc (suc (suc (suc zero))))) n h k l = omega arith
value_small v (suc (suc (suc (suc (suc (suc i)))))) n h k l = absurd (omega arith)

pub value_more : (v d i : ℕ) → v < 16 ^ i → d < 16 → v * 16 + d < 16 ^ (i + 1)
value_more v d i h k = rw (add-one, pow-suc) (omega arith)
