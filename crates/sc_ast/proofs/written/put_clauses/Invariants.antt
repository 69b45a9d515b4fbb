use Rattle.std.proofs.Common.{◌≡◌, ◌++◌, take}
use Rattle.std.specs.List.{flat_map}
use Rattle.sc_ast.specs.declared.policy.Condition.{Condition}
use Rattle.sc_ast.specs.Literals.{expr_uids}
use Rattle.sc_ast.proofs.written.put_clauses.Given as goal

abbrev pub invariant-loop-clause : goal.invariant-loop-clause
invariant-loop-clause l = l.uids ≡ l.initial.uids ++ flat_map (λ (c : Condition). expr_uids c.body) (take l.clause-index l.clauses)
