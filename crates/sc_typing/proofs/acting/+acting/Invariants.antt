use Rattle.std.proofs.Common.{◌≡◌, ◌+◌, ◌*◌, ℕ, List, map, max, take}
use Rattle.sc_ast.specs.declared.expr.Expr.{Expr, size-Expr}
use Rattle.sc_typing.specs.Policies.{acting}
use Rattle.sc_typing.proofs.acting.+acting.Given as goal

abbrev pub decreases-acting : goal.decreases-acting
decreases-acting l = 3 * size-Expr l.expr.now

abbrev pub decreases-acting_boxed : goal.decreases-acting_boxed
decreases-acting_boxed l = 3 * size-Expr l.expr.now + 1

abbrev pub decreases-acting_choice : goal.decreases-acting_choice
decreases-acting_choice l = 3 * max (size-Expr l.c.now) (max (size-Expr l.a.now) (size-Expr l.b.now)) + 2

abbrev pub decreases-acting_binary : goal.decreases-acting_binary
decreases-acting_binary l = 3 * max (size-Expr l.a.now) (size-Expr l.b.now) + 2

abbrev pub decreases-acting_is_in : goal.decreases-acting_is_in
decreases-acting_is_in l = 3 * max (size-Expr l.a.now) (size-Expr l.b.now) + 2

abbrev pub decreases-acting_unary : goal.decreases-acting_unary
decreases-acting_unary l = 3 * size-Expr l.a.now + 2

abbrev pub decreases-acting_set : goal.decreases-acting_set
decreases-acting_set l = 3 * goal.size-acting_set l + 1

abbrev pub decreases-acting_record : goal.decreases-acting_record
decreases-acting_record l = 3 * goal.size-acting_record l + 1

abbrev pub decreases-acting_has : goal.decreases-acting_has
decreases-acting_has l = 3 * size-Expr l.a.now + 2

abbrev pub decreases-acting_like : goal.decreases-acting_like
decreases-acting_like l = 3 * size-Expr l.a.now + 2

abbrev pub decreases-acting_is : goal.decreases-acting_is
decreases-acting_is l = 3 * size-Expr l.a.now + 2

abbrev pub decreases-acting_access : goal.decreases-acting_access
decreases-acting_access l = 3 * size-Expr l.a.now + 2

abbrev pub decreases-acting_or : goal.decreases-acting_or
decreases-acting_or l = 3 * max (size-Expr l.a.now) (size-Expr l.b.now) + 2

abbrev pub decreases-acting_and : goal.decreases-acting_and
decreases-acting_and l = 3 * max (size-Expr l.a.now) (size-Expr l.b.now) + 2

abbrev pub invariant-acting_set-loop-member : goal.invariant-acting_set-loop-member
invariant-acting_set-loop-member l = l.copies ≡ map (acting l.action) (take l.member-index l.members)

abbrev pub invariant-acting_record-loop-field : goal.invariant-acting_record-loop-field
invariant-acting_record-loop-field l = l.copies ≡ map (λ (f : List ℕ × Expr). (f.0, acting l.action f.1)) (take l.field-index l.fields)
