use Rattle.std.proofs.Common.{◌≡◌, ◌+◌, ◌*◌, max, take}
use Rattle.sc_ast.specs.declared.expr.Expr.{size-Expr}
use Rattle.sc_ast.proofs.copy.+copy.Given as goal

abbrev pub decreases-try_clone : goal.decreases-try_clone
decreases-try_clone l = 3 * size-Expr l.expr.now

abbrev pub decreases-boxed : goal.decreases-boxed
decreases-boxed l = 3 * size-Expr l.expr.now + 1

abbrev pub decreases-clone_choice : goal.decreases-clone_choice
decreases-clone_choice l = 3 * max (size-Expr l.c.now) (max (size-Expr l.a.now) (size-Expr l.b.now)) + 2

abbrev pub decreases-clone_binary : goal.decreases-clone_binary
decreases-clone_binary l = 3 * max (size-Expr l.a.now) (size-Expr l.b.now) + 2

abbrev pub decreases-clone_is_in : goal.decreases-clone_is_in
decreases-clone_is_in l = 3 * max (size-Expr l.a.now) (size-Expr l.b.now) + 2

abbrev pub decreases-clone_or : goal.decreases-clone_or
decreases-clone_or l = 3 * max (size-Expr l.a.now) (size-Expr l.b.now) + 2

abbrev pub decreases-clone_and : goal.decreases-clone_and
decreases-clone_and l = 3 * max (size-Expr l.a.now) (size-Expr l.b.now) + 2

abbrev pub decreases-clone_has : goal.decreases-clone_has
decreases-clone_has l = 3 * size-Expr l.a.now + 2

abbrev pub decreases-clone_like : goal.decreases-clone_like
decreases-clone_like l = 3 * size-Expr l.a.now + 2

abbrev pub decreases-clone_is : goal.decreases-clone_is
decreases-clone_is l = 3 * size-Expr l.a.now + 2

abbrev pub decreases-clone_access : goal.decreases-clone_access
decreases-clone_access l = 3 * size-Expr l.a.now + 2

abbrev pub decreases-clone_unary : goal.decreases-clone_unary
decreases-clone_unary l = 3 * size-Expr l.a.now + 2

abbrev pub decreases-clone_set : goal.decreases-clone_set
decreases-clone_set l = 3 * goal.size-clone_set l + 1

abbrev pub decreases-clone_record : goal.decreases-clone_record
decreases-clone_record l = 3 * goal.size-clone_record l + 1

abbrev pub invariant-clone_set-loop-member : goal.invariant-clone_set-loop-member
invariant-clone_set-loop-member l = l.copies ≡ take l.member-index l.members

abbrev pub invariant-clone_record-loop-field : goal.invariant-clone_record-loop-field
invariant-clone_record-loop-field l = l.copies ≡ take l.field-index l.fields
