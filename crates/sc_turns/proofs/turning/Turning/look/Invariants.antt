use Rattle.std.proofs.Common.{◌≡◌, length}
use Rattle.sc_turns.specs.Turning.{IsKept}
use Rattle.sc_turns.specs.declared.turning.Turning.{Turning}
use Rattle.sc_turns.proofs.turning.Turning.look.Given as goal

pub record IsSo (first now : Turning) : Type 0 where
  pub kept : IsKept now
  pub parts : now.parts ≡ first.parts
  pub told : now.told ≡ first.told

abbrev pub invariant-loop-x : goal.invariant-loop-x
invariant-loop-x l = IsSo l.initial.self l.self

abbrev pub decreases-loop-x : goal.decreases-loop-x
decreases-loop-x l = length l.self.ahead.items
