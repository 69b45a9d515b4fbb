use Rattle.std.proofs.Common.{◌≤◌, ◌-◌, length}
use Rattle.sc_ast.specs.declared.place.Place.{Place}
use Rattle.sc_ast.specs.declared.policy.Effect.{Effect}
use Rattle.sc_lexemes.specs.Outcomes.{Outcome}
use Rattle.sc_parser.specs.ReadsFiles.{ReadsHead}
use Rattle.sc_parser.proofs.head.head.Given as goal

-- what comes of the rest comes of the whole
abbrev pub invariant-loop-place : goal.invariant-loop-place
invariant-loop-place l = record {
  forward : l.fn.cursor.at ≤ l.cursor.at;
  within : l.cursor.at ≤ length l.ts;
  rest : (o : Outcome (Place × Effect)) → ReadsHead l.ts l.cursor o → ReadsHead l.ts l.fn.cursor o;
}

abbrev pub decreases-loop-place : goal.decreases-loop-place
decreases-loop-place l = length l.ts - l.cursor.at
