use Rattle.std.proofs.Common.{◌≤◌, ◌-◌, List, [], length}
use Rattle.sc_ast.specs.declared.literal.EntityLiteral.{EntityLiteral}
use Rattle.sc_lexemes.specs.Outcomes.{Outcome}
use Rattle.sc_parser.specs.ReadsFiles.{ReadsEntities}
use Rattle.sc_parser.proofs.constraint.entities.Given as goal

-- what comes of the rest comes of the whole
abbrev pub invariant-loop-entities : goal.invariant-loop-entities
invariant-loop-entities l = record {
  forward : l.fn.cursor.at ≤ l.cursor.at;
  within : l.cursor.at ≤ length l.ts;
  rest : (o : Outcome (List EntityLiteral)) → ReadsEntities l.ts l.cursor l.entities o → ReadsEntities l.ts l.fn.cursor [] o;
}

abbrev pub decreases-loop-entities : goal.decreases-loop-entities
decreases-loop-entities l = length l.ts - l.cursor.at
