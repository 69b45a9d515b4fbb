use Rattle.std.proofs.Common.{◌≤◌, ◌-◌, List, [], length}
use Rattle.sc_ast.specs.declared.policy.Policy.{Policy}
use Rattle.sc_lexemes.specs.Outcomes.{Outcome}
use Rattle.sc_parser.specs.ReadsFiles.{ReadsPolicies}
use Rattle.sc_parser.proofs.policy.policies.Given as goal

-- what comes of the rest comes of the whole
abbrev pub invariant-loop-at : goal.invariant-loop-at
invariant-loop-at l = record {
  within : l.at ≤ length l.ts;
  rest : (o : Outcome (List Policy)) → ReadsPolicies l.ts l.at l.policies o → ReadsPolicies l.ts l.fn.at [] o;
}

abbrev pub decreases-loop-at : goal.decreases-loop-at
decreases-loop-at l = length l.ts - l.at
