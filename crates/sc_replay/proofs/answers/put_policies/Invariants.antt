use Rattle.std.proofs.Common.{◌≡◌, ◌++◌, drop}
use Rattle.sc_replay.specs.Lines.{standing_lines}
use Rattle.sc_replay.proofs.answers.put_policies.Given as goal

abbrev pub invariant-loop-place : goal.invariant-loop-place
invariant-loop-place l = l.lines ++ standing_lines l.place (drop l.place l.standings) ≡ l.fn.lines ++ standing_lines 0 l.standings
