-- What is known of pairs of items, and breaches of transitivity.
use Rattle.std.specs.Prelude.{◌≡◌, ℕ, ◌<◌, Bool, true, false, Option, Some}

-- whether two items are equal, where that is known
abbrev pub Truth : Type 0
Truth = ℕ → ℕ → Option Bool

-- the first is known to equal the second, the second the third, and the first to differ from the third
pub record IsIntransitive (truth : Truth) (a b c : ℕ) : Type 0 where
  pub first : truth a b ≡ Some true
  pub second : truth b c ≡ Some true
  pub third : truth a c ≡ Some false

-- no three items do
abbrev pub NoneIntransitive : Truth → ℕ → Type 0
NoneIntransitive truth n = (a b c : ℕ) → a < n → b < n → c < n → ¬ (IsIntransitive truth a b c)
