use Rattle.std.proofs.Common.{ℕ, ◌<◌, get_or}
use Rattle.sc_ast.specs.declared.policy.Condition.{Condition}
use Rattle.sc_eval.specs.Written.{HasProperConstants}
use Rattle.sc_eval.proofs.constants.of_clauses.Given as goal

abbrev pub invariant-loop-clause : goal.invariant-loop-clause
invariant-loop-clause l = (k : ℕ) (d : Condition) → k < l.clause-index → HasProperConstants (get_or l.clauses k d).body
