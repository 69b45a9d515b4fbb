-- The same by bits: what an assignment to the bits of a number, of days and of a time, and to all that the clauses name
-- between them, meets where none of the clauses is falsified.
use Rattle.std.specs.Prelude.{◌≡◌, ◌<◌, ℕ, Bool, true, false, pos}
use Rattle.sc_bits.specs.Bits.{bit64}
use Rattle.sc_bits.specs.Adders.{IsAdder}
use Rattle.sc_bits.specs.Orders.{is_below, IsLow}
use Rattle.sc_bits.specs.Products.{IsMultiplier}
use Rattle.sc_dates.specs.Days.{day}
use Rattle.sc_day_laws.specs.Clauses.{first_day, last_day}

-- a comparison of two numbers by its lower bits `low`
pub record IsLess (a b low : ℕ → Bool) (answer : Bool) : Type 0 where
  pub lower : IsLow 63 a b low
  pub is : is_below (b 63) (a 63) (low 63) ≡ answer

-- rows and carries of the product of days by the length of a day, its bits, the carries and the bits of its sum with
-- the time
pub record IsSum (number days time : ℕ → Bool) (rows carries : ℕ → ℕ → Bool) (product carry sum : ℕ → Bool)
    : Type 0 where
  pub multiplied : IsMultiplier 64 days (bit64 (pos day)) rows carries
  pub last_row : (i : ℕ) → i < 64 → product i ≡ rows 128 i
  pub added : IsAdder false 64 product time carry sum
  pub same : (i : ℕ) → i < 64 → sum i ≡ number i

-- `days_low` and `number_low` are the lower bits of the two tests for a sign, of which only the answers are compared
pub record KeepsBits (number days time : ℕ → Bool) (rows carries : ℕ → ℕ → Bool)
    (product carry sum negative short early late days_low number_low : ℕ → Bool) : Type 0 where
  pub is_sum : IsSum number days time rows carries product carry sum
  pub not_negative : IsLess time (bit64 (pos 0)) negative false
  pub below_day : IsLess time (bit64 (pos day)) short true
  pub not_before : IsLess days (bit64 first_day) early false
  pub not_after : IsLess (bit64 last_day) days late false
  pub days_lower : IsLow 63 days (bit64 (pos 0)) days_low
  pub number_lower : IsLow 63 number (bit64 (pos 0)) number_low
  pub sign : is_below (bit64 (pos 0) 63) (days 63) (days_low 63)
      ≡ is_below (bit64 (pos 0) 63) (number 63) (number_low 63)
