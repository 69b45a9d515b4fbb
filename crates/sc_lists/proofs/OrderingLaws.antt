-- What comparisons answer.
use Rattle.std.proofs.Common.{◌≡◌, ◌≢◌, ℕ, true, false, Ordering, Less, Equal, Greater, is_eq, refl, arith}
use Rattle.std.proofs.lemmas.Bool.Decides.{nat_tests}
use Rattle.std.specs.BTreeMap.{is_at}
use Rattle.std.specs.Ordering.{nat_cmp, ordering_then, is_gt, is_lt}

pub is_eq_true : (o : Ordering) → is_eq o ≡ true → o ≡ Equal
is_eq_true Less h = absurd cc
is_eq_true Equal h = refl
is_eq_true Greater h = absurd cc

pub is_gt_false : (o : Ordering) → is_gt o ≡ false → o ≢ Greater
is_gt_false Less h e = cc
is_gt_false Equal h e = cc
is_gt_false Greater h e = cc

pub ordering_then_equal : (a b : Ordering) → ordering_then a b ≡ Equal → (a ≡ Equal) × (b ≡ Equal)
ordering_then_equal Less b h = absurd cc
ordering_then_equal Equal b h = (refl, h)
ordering_then_equal Greater b h = absurd cc

pub less≢equal : Less ≡ Equal → ⊥
less≢equal h = cc

-- a look-up of a number finds that number alone
pub is_at_itself : (n : ℕ) → is_at (nat_cmp n) n ≡ true
is_at_itself n = grind (arith, nat_tests)

pub is_at_same : (n m : ℕ) → is_at (nat_cmp n) m ≡ true → m ≡ n
is_at_same n m h = grind (arith, nat_tests)

pub is_lt_true : (o : Ordering) → is_lt o ≡ true → o ≡ Less
is_lt_true Less h = refl
is_lt_true Equal h = absurd cc
is_lt_true Greater h = absurd cc
