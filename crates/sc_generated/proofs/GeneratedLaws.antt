-- Numbers drawn one after another.
use Rattle.std.proofs.Common.{◌≡◌, ℕ, ◌+◌, [], ◌∷◌, ◌++◌, refl, add-one}
use Rattle.sc_generated.specs.Generated.{step, drawn, draws}

pub drawn_first : (n : ℕ) → drawn n 0 ≡ n
unfolding drawn
drawn_first n = refl

pub drawn_next : (n i : ℕ) → drawn n (i + 1) ≡ step (drawn n i)
unfolding drawn
drawn_next n i = rw add-one refl

pub draws_none : (n : ℕ) → draws n 0 ≡ []
unfolding draws
draws_none n = refl

pub draws_more : (n i : ℕ) → draws n (i + 1) ≡ draws n i ++ (drawn n (i + 1) ∷ [])
unfolding draws
draws_more n i = rw add-one refl
