use Rattle.std.proofs.Common.{◌≡◌, ℕ, ◌+◌, ◌*◌, max, map, drop, List}
use Rattle.sc_ast.specs.declared.expr.Expr.{Expr, size-Expr}
use Rattle.sc_eval.specs.Eval.{eval, all_values, all_fields}
use Rattle.sc_eval.proofs.ToComeLaws.{values_to_come, fields_to_come}
use Rattle.sc_eval.proofs.evaluation.+evaluate.Given as goal

abbrev pub decreases-evaluate : goal.decreases-evaluate
decreases-evaluate l = 3 * size-Expr l.expr.now

abbrev pub decreases-operand : goal.decreases-operand
decreases-operand l = 3 * size-Expr l.expr.now + 1

abbrev pub decreases-choose : goal.decreases-choose
decreases-choose l = 3 * max (size-Expr l.c.now) (max (size-Expr l.a.now) (size-Expr l.b.now)) + 2

abbrev pub decreases-or_else : goal.decreases-or_else
decreases-or_else l = 3 * max (size-Expr l.a.now) (size-Expr l.b.now) + 2

abbrev pub decreases-and_also : goal.decreases-and_also
decreases-and_also l = 3 * max (size-Expr l.a.now) (size-Expr l.b.now) + 2

abbrev pub decreases-operate : goal.decreases-operate
decreases-operate l = 3 * max (size-Expr l.a.now) (size-Expr l.b.now) + 2

abbrev pub decreases-is_and_in : goal.decreases-is_and_in
decreases-is_and_in l = 3 * max (size-Expr l.a.now) (size-Expr l.b.now) + 2

abbrev pub decreases-has_names : goal.decreases-has_names
decreases-has_names l = 3 * size-Expr l.a.now + 2

abbrev pub decreases-like : goal.decreases-like
decreases-like l = 3 * size-Expr l.a.now + 2

abbrev pub decreases-is : goal.decreases-is
decreases-is l = 3 * size-Expr l.a.now + 2

abbrev pub decreases-apply : goal.decreases-apply
decreases-apply l = 3 * size-Expr l.a.now + 2

abbrev pub decreases-read : goal.decreases-read
decreases-read l = 3 * size-Expr l.a.now + 2

abbrev pub decreases-make_set : goal.decreases-make_set
decreases-make_set l = 3 * goal.size-make_set l + 2

abbrev pub decreases-evaluate_all : goal.decreases-evaluate_all
decreases-evaluate_all l = 3 * goal.size-evaluate_all l + 1

abbrev pub decreases-make_record : goal.decreases-make_record
decreases-make_record l = 3 * goal.size-make_record l + 2

abbrev pub decreases-evaluate_fields : goal.decreases-evaluate_fields
decreases-evaluate_fields l = 3 * goal.size-evaluate_fields l + 1

abbrev pub invariant-evaluate_all-loop-member : goal.invariant-evaluate_all-loop-member
invariant-evaluate_all-loop-member l = values_to_come l.values l.world (drop l.member-index l.members) ≡ all_values (map eval l.members) l.world

abbrev pub invariant-evaluate_fields-loop-field : goal.invariant-evaluate_fields-loop-field
invariant-evaluate_fields-loop-field l = fields_to_come l.pairs l.world (drop l.field-index l.fields) ≡ all_fields (map (λ (f : List ℕ × Expr). (f.0, eval f.1)) l.fields) l.world
