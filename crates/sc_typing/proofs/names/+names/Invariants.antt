use Rattle.std.proofs.Common.{◌≡◌, ℕ, ◌+◌, ◌*◌, max, List, map, fold, drop}
use Rattle.sc_ast.specs.declared.expr.Expr.{Expr, size-Expr}
use Rattle.sc_typing.specs.Names.{first_of, first_in, expr_fault}
use Rattle.sc_typing.proofs.names.+names.Given as goal

abbrev pub decreases-expr_fault : goal.decreases-expr_fault
decreases-expr_fault l = 2 * size-Expr l.expr.now

abbrev pub decreases-two_fault : goal.decreases-two_fault
decreases-two_fault l = 2 * max (size-Expr l.a.now) (size-Expr l.b.now) + 1

abbrev pub decreases-all_fault : goal.decreases-all_fault
decreases-all_fault l = 2 * goal.size-all_fault l + 1

abbrev pub decreases-fields_fault : goal.decreases-fields_fault
decreases-fields_fault l = 2 * goal.size-fields_fault l + 1

abbrev pub invariant-all_fault-loop-expr : goal.invariant-all_fault-loop-expr
invariant-all_fault-loop-expr l = fold first_of l.found (map (expr_fault l.schema) (drop l.expr-index l.exprs)) ≡ first_in (map (expr_fault l.schema) l.exprs)

abbrev pub invariant-fields_fault-loop-field : goal.invariant-fields_fault-loop-field
invariant-fields_fault-loop-field l =
    fold first_of l.found (map (λ (f : List ℕ × Expr). expr_fault l.schema f.1) (drop l.field-index l.fields))
    ≡ first_in (map (λ (f : List ℕ × Expr). expr_fault l.schema f.1) l.fields)
