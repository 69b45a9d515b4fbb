use Rattle.std.proofs.Common.{◌≡◌, Bool, List, ℕ, map, length}
use Rattle.sc_terms.specs.Tables.{AreBelow}
use Rattle.sc_smtlib.specs.Marks.{Marks}
use Rattle.sc_smtlib.proofs.marks.mark_all.Given as goal

pub record IsSo (first now : List Bool) (parts rest : List (List ℕ × ℕ)) : Type 0 where
  pub as_many : length now ≡ length first
  pub within : AreBelow (length first) rest
  pub keeps : (c : List Bool) → Marks now c (map (λ (p : List ℕ × ℕ). p.1) rest) → Marks first c (map (λ (p : List ℕ × ℕ). p.1) parts)

abbrev pub invariant-loop-part : goal.invariant-loop-part
invariant-loop-part l = IsSo l.fn.marks.items l.marks.items l.fn.parts l.rest

abbrev pub decreases-loop-part : goal.decreases-loop-part
decreases-loop-part l = length l.rest
