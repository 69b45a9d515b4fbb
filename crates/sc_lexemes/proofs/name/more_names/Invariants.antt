use Rattle.std.proofs.Common.{◌≤◌, ◌-◌, ℕ, List, length}
use Rattle.sc_lexemes.specs.Outcomes.{Outcome}
use Rattle.sc_lexemes.specs.ReadsWords.{ReadsMoreNames}
use Rattle.sc_lexemes.proofs.name.more_names.Given as goal

-- what comes of the rest comes of the whole
abbrev pub invariant-loop-cursor : goal.invariant-loop-cursor
invariant-loop-cursor l = record {
  forward : l.fn.cursor.at ≤ l.cursor.at;
  within : l.cursor.at ≤ length l.ts;
  rest : (o : Outcome (List (List ℕ))) → ReadsMoreNames l.ts l.cursor l.names o → ReadsMoreNames l.ts l.fn.cursor l.fn.so_far o;
}

abbrev pub decreases-loop-cursor : goal.decreases-loop-cursor
decreases-loop-cursor l = length l.ts - l.cursor.at
