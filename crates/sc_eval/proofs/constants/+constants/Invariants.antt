use Rattle.std.proofs.Common.{ℕ, ◌+◌, ◌*◌, ◌<◌, List, get_or, max}
use Rattle.sc_ast.specs.declared.expr.Expr.{Expr, size-Expr}
use Rattle.sc_eval.specs.Written.{HasProperConstants}
use Rattle.sc_eval.proofs.constants.+constants.Given as goal

abbrev pub decreases-of_expr : goal.decreases-of_expr
decreases-of_expr l = 3 * size-Expr l.expr.now

abbrev pub decreases-of_boxed : goal.decreases-of_boxed
decreases-of_boxed l = 3 * size-Expr l.expr.now + 1

abbrev pub decreases-of_two : goal.decreases-of_two
decreases-of_two l = 3 * max (size-Expr l.a.now) (size-Expr l.b.now) + 2

abbrev pub decreases-of_three : goal.decreases-of_three
decreases-of_three l = 3 * max (size-Expr l.c.now) (max (size-Expr l.a.now) (size-Expr l.b.now)) + 2

abbrev pub decreases-of_all : goal.decreases-of_all
decreases-of_all l = 3 * goal.size-of_all l + 1

abbrev pub decreases-of_record : goal.decreases-of_record
decreases-of_record l = 3 * goal.size-of_record l + 2

abbrev pub decreases-of_values : goal.decreases-of_values
decreases-of_values l = 3 * goal.size-of_values l + 1

abbrev pub invariant-of_all-loop-expr : goal.invariant-of_all-loop-expr
invariant-of_all-loop-expr l = (k : ℕ) (d : Expr) → k < l.expr-index → HasProperConstants (get_or l.exprs k d)

abbrev pub invariant-of_values-loop-field : goal.invariant-of_values-loop-field
invariant-of_values-loop-field l = (k : ℕ) (d : List ℕ × Expr) → k < l.field-index → HasProperConstants (get_or l.fields k d).1
