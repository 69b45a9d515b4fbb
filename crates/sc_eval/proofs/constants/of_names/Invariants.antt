use Rattle.std.proofs.Common.{ℕ, ◌<◌, List, get_or}
use Rattle.sc_ast.specs.declared.expr.Expr.{Expr}
use Rattle.sc_eval.specs.Written.{HasTextName}
use Rattle.sc_eval.proofs.constants.of_names.Given as goal

abbrev pub invariant-loop-field : goal.invariant-loop-field
invariant-loop-field l = (k : ℕ) (d : List ℕ × Expr) → k < l.field-index → HasTextName (get_or l.fields k d)
