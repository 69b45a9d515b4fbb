use Rattle.std.proofs.Common.{◌≡◌, ℕ, ◌+◌, ◌*◌, max, ◌++◌, List, take}
use Rattle.std.specs.List.{flat_map}
use Rattle.sc_ast.specs.declared.expr.Expr.{Expr, size-Expr}
use Rattle.sc_ast.specs.Literals.{expr_uids}
use Rattle.sc_ast.proofs.written.+written.Given as goal

abbrev pub decreases-put_expr : goal.decreases-put_expr
decreases-put_expr l = 2 * size-Expr l.expr.now

abbrev pub decreases-put_two : goal.decreases-put_two
decreases-put_two l = 2 * max (size-Expr l.a.now) (size-Expr l.b.now) + 1

abbrev pub decreases-put_three : goal.decreases-put_three
decreases-put_three l = 2 * max (size-Expr l.c.now) (max (size-Expr l.a.now) (size-Expr l.b.now)) + 1

abbrev pub decreases-put_all : goal.decreases-put_all
decreases-put_all l = 2 * goal.size-put_all l + 1

abbrev pub decreases-put_fields : goal.decreases-put_fields
decreases-put_fields l = 2 * goal.size-put_fields l + 1

abbrev pub invariant-put_all-loop-expr : goal.invariant-put_all-loop-expr
invariant-put_all-loop-expr l = l.uids ≡ l.initial.uids ++ flat_map expr_uids (take l.expr-index l.exprs)

abbrev pub invariant-put_fields-loop-field : goal.invariant-put_fields-loop-field
invariant-put_fields-loop-field l = l.uids ≡ l.initial.uids ++ flat_map (λ (f : List ℕ × Expr). expr_uids f.1) (take l.field-index l.fields)
