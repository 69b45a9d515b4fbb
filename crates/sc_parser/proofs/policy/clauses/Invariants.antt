use Rattle.std.proofs.Common.{◌≤◌, ◌-◌, List, [], length}
use Rattle.sc_ast.specs.declared.policy.Condition.{Condition}
use Rattle.sc_lexemes.specs.Outcomes.{Outcome}
use Rattle.sc_parser.specs.ReadsFiles.{ReadsClauses}
use Rattle.sc_parser.proofs.policy.clauses.Given as goal

-- what comes of the rest comes of the whole
abbrev pub invariant-loop-place : goal.invariant-loop-place
invariant-loop-place l = record {
  forward : l.fn.cursor.at ≤ l.cursor.at;
  within : l.cursor.at ≤ length l.ts;
  rest : (o : Outcome (List Condition)) → ReadsClauses l.ts l.cursor l.clauses o → ReadsClauses l.ts l.fn.cursor [] o;
}

abbrev pub decreases-loop-place : goal.decreases-loop-place
decreases-loop-place l = length l.ts - l.cursor.at
