-- A test whose truth is told is the one of the definitions.
use Rattle.std.proofs.Common.{◌≡◌, ◌↔◌, ℤ, ◌<ℤ◌, ◌≤ℤ◌, int_lt, int_le, Bool, IsTrue, arith}
use Rattle.std.proofs.lemmas.Int.{ints}
use Rattle.sc_laws.proofs.NumberLaws.{int_lt_decides}
use Rattle.sc_laws.proofs.BoolLaws.{same_truth}

pub le-decides : (m n : ℤ) → IsTrue (int_le m n) ↔ (m ≤ℤ n)
le-decides m n = (λ t. grind (arith, ints), λ t. grind (arith, ints))

pub less_is : (b : Bool) (m n : ℤ) → (IsTrue b ↔ (m <ℤ n)) → b ≡ int_lt m n
less_is b m n h = same_truth b (int_lt m n) h (int_lt_decides m n)

pub less_or_equal_is : (b : Bool) (m n : ℤ) → (IsTrue b ↔ (m ≤ℤ n)) → b ≡ int_le m n
less_or_equal_is b m n h = same_truth b (int_le m n) h (le-decides m n)
