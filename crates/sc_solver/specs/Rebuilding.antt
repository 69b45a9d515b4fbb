-- Assignments of the listed atoms, and the worlds that they stand for.
use Rattle.std.specs.Prelude.{◌≡◌, ◌≤◌, ℕ, false, Some, IfSome, length}
use Rattle.sc_world.specs.declared.world.World.{World}
use Rattle.sc_clauses.specs.Assignments.{Assignment, value_of}
use Rattle.sc_footprint.specs.Goals.{has_pick}
use Rattle.sc_footprint.specs.Problems.{Posed, IsPosed, atoms, numbered}
use Rattle.sc_footprint.specs.Truths.{truths, Satisfies}
use Rattle.sc_theory_search.specs.Findings as found
use Rattle.sc_solver.specs.Theories.{HasOtherRule, rule_clause}

-- each listed atom has a value, and neither a defining clause nor the clause of an instance of the rules is falsified
abbrev pub IsConsistent : Posed → Assignment → Type 0
IsConsistent p m = found.IsConsistent (HasOtherRule p) (rule_clause p) p m

-- each listed atom in which no member is picked has its assigned truth in the world
abbrev pub HasTruths : Posed → Assignment → World → Type 0
HasTruths p m w = (n : ℕ) → IfSome (numbered (atoms p) n) (λ t. has_pick t ≡ false → value_of m n ≡ Some (truths p w n))

-- the truths of a world, by the numbers of atoms
abbrev pub AreTruthsOf : Posed → World → Assignment → Type 0
AreTruthsOf p w m = (n : ℕ) → 1 ≤ n → n ≤ length (atoms p) → value_of m n ≡ Some (truths p w n)

-- those of a well-formed world in which the goal is true are consistent
abbrev pub TruthsAreConsistent : Type 0
TruthsAreConsistent = (p : Posed) (w : World) (m : Assignment) → IsPosed p → Satisfies p w → AreTruthsOf p w m
    → IsConsistent p m
