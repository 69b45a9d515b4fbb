use Rattle.std.proofs.Common.{◌≡◌, ℕ, List, [], length}
use Rattle.sc_turns.specs.Turning.{IsKept}
use Rattle.sc_turns.specs.declared.turning.Turning.{Turning}
use Rattle.sc_turns.proofs.order.turns.Given as goal

pub record IsSo (parts : List (List ℕ)) (turn : ℕ) (state : Turning) : Type 0 where
  pub kept : IsKept state
  pub none : state.ahead.items ≡ []
  pub same : state.parts ≡ parts
  pub count : length state.told ≡ turn

abbrev pub invariant-loop-turn : goal.invariant-loop-turn
invariant-loop-turn l = IsSo l.fn.parts l._turn l.state
