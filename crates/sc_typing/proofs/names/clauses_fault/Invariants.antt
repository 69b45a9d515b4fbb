use Rattle.std.proofs.Common.{◌≡◌, map, fold, drop}
use Rattle.sc_ast.specs.declared.policy.Condition.{Condition}
use Rattle.sc_typing.specs.Names.{first_of, expr_fault, clauses_fault}
use Rattle.sc_typing.proofs.names.clauses_fault.Given as goal

abbrev pub invariant-loop-clause : goal.invariant-loop-clause
invariant-loop-clause l = fold first_of l.found (map (λ (c : Condition). expr_fault l.schema c.body) (drop l.clause-index l.clauses)) ≡ clauses_fault l.schema l.clauses
