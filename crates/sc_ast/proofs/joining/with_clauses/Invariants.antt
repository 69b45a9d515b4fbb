use Rattle.std.proofs.Common.{◌≡◌, drop, fold, map}
use Rattle.sc_ast.specs.Conditions.{joined, clause}
use Rattle.sc_ast.proofs.joining.with_clauses.Given as goal

abbrev pub invariant-loop-clause : goal.invariant-loop-clause
invariant-loop-clause l = fold joined l.asked (map clause (drop l.clause-index l.clauses)) ≡ fold joined l.fn.asked (map clause l.clauses)
