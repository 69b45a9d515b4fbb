use Rattle.std.proofs.Common.{◌≤◌, ◌-◌, length, string_bytes}
use Rattle.sc_ast.specs.declared.literal.EntityLiteral.{EntityLiteral}
use Rattle.sc_lexemes.specs.Outcomes.{Outcome}
use Rattle.sc_lexemes.specs.ReadsWords.{ReadsMoreEntity}
use Rattle.sc_lexemes.proofs.name.more_entity.Given as goal

-- what comes of the rest comes of the whole
abbrev pub invariant-loop-id : goal.invariant-loop-id
invariant-loop-id l = record {
  forward : l.fn.cursor.at ≤ l.cursor.at;
  within : l.cursor.at ≤ length l.ts;
  rest : (o : Outcome EntityLiteral) → ReadsMoreEntity l.ts l.cursor l.place (string_bytes l.path) o → ReadsMoreEntity l.ts l.fn.cursor l.place (string_bytes l.fn.so_far) o;
}

abbrev pub decreases-loop-id : goal.decreases-loop-id
decreases-loop-id l = length l.ts - l.cursor.at
