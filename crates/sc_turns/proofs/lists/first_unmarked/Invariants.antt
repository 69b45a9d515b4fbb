use Rattle.std.proofs.Common.{◌≡◌, ℕ, true, length}
use Rattle.std.specs.List.{AllByRecursion}
use Rattle.sc_lists.specs.Members.{Has}
use Rattle.sc_turns.specs.Turning.{is_told}
use Rattle.sc_turns.proofs.lists.first_unmarked.Given as goal

pub record IsFront (marks : _) (places rest : _) : Type 0 where
  pub marked : AllByRecursion (λ p. is_told marks p ≡ true) rest → AllByRecursion (λ p. is_told marks p ≡ true) places
  pub within : (q : ℕ) → Has rest q → Has places q

abbrev pub invariant-loop-place : goal.invariant-loop-place
invariant-loop-place l = IsFront l.fn.marks l.fn.places l.rest

abbrev pub decreases-loop-place : goal.decreases-loop-place
decreases-loop-place l = length l.rest
