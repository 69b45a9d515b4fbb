use Rattle.std.proofs.Common.{◌≤◌, ◌-◌, ℕ, List, length, string_bytes}
use Rattle.sc_lexemes.specs.Outcomes.{Outcome}
use Rattle.sc_lexemes.specs.ReadsWords.{ReadsMorePath}
use Rattle.sc_lexemes.proofs.name.more_path.Given as goal

-- what comes of the rest comes of the whole
abbrev pub invariant-loop-cursor : goal.invariant-loop-cursor
invariant-loop-cursor l = record {
  forward : l.fn.cursor.at ≤ l.cursor.at;
  within : l.cursor.at ≤ length l.ts;
  rest : (o : Outcome (List ℕ)) → ReadsMorePath l.ts l.cursor (string_bytes l.path) o → ReadsMorePath l.ts l.fn.cursor (string_bytes l.fn.so_far) o;
}

abbrev pub decreases-loop-cursor : goal.decreases-loop-cursor
decreases-loop-cursor l = length l.ts - l.cursor.at
