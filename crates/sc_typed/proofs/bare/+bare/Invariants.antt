use Rattle.std.proofs.Common.{◌≡◌, ◌+◌, ◌*◌, ℕ, List, map, max, take}
use Rattle.sc_ast.specs.declared.expr.Expr.{Expr, size-Expr}
use Rattle.sc_typed.specs.Capabilities.{bare}
use Rattle.sc_typed.proofs.bare.+bare.Given as goal

abbrev pub decreases-bare : goal.decreases-bare
decreases-bare l = 3 * size-Expr l.expr.now

abbrev pub decreases-bare_boxed : goal.decreases-bare_boxed
decreases-bare_boxed l = 3 * size-Expr l.expr.now + 1

abbrev pub decreases-bare_choice : goal.decreases-bare_choice
decreases-bare_choice l = 3 * max (size-Expr l.c.now) (max (size-Expr l.a.now) (size-Expr l.b.now)) + 2

abbrev pub decreases-bare_binary : goal.decreases-bare_binary
decreases-bare_binary l = 3 * max (size-Expr l.a.now) (size-Expr l.b.now) + 2

abbrev pub decreases-bare_is_in : goal.decreases-bare_is_in
decreases-bare_is_in l = 3 * max (size-Expr l.a.now) (size-Expr l.b.now) + 2

abbrev pub decreases-bare_or : goal.decreases-bare_or
decreases-bare_or l = 3 * max (size-Expr l.a.now) (size-Expr l.b.now) + 2

abbrev pub decreases-bare_and : goal.decreases-bare_and
decreases-bare_and l = 3 * max (size-Expr l.a.now) (size-Expr l.b.now) + 2

abbrev pub decreases-bare_has : goal.decreases-bare_has
decreases-bare_has l = 3 * size-Expr l.a.now + 2

abbrev pub decreases-bare_like : goal.decreases-bare_like
decreases-bare_like l = 3 * size-Expr l.a.now + 2

abbrev pub decreases-bare_is : goal.decreases-bare_is
decreases-bare_is l = 3 * size-Expr l.a.now + 2

abbrev pub decreases-bare_access : goal.decreases-bare_access
decreases-bare_access l = 3 * size-Expr l.a.now + 2

abbrev pub decreases-bare_unary : goal.decreases-bare_unary
decreases-bare_unary l = 3 * size-Expr l.a.now + 2

abbrev pub decreases-bare_set : goal.decreases-bare_set
decreases-bare_set l = 3 * goal.size-bare_set l + 1

abbrev pub decreases-bare_record : goal.decreases-bare_record
decreases-bare_record l = 3 * goal.size-bare_record l + 1

abbrev pub invariant-bare_set-loop-member : goal.invariant-bare_set-loop-member
invariant-bare_set-loop-member l = l.copies ≡ map bare (take l.member-index l.members)

abbrev pub invariant-bare_record-loop-field : goal.invariant-bare_record-loop-field
invariant-bare_record-loop-field l = l.copies ≡ map (λ (f : List ℕ × Expr). (f.0, bare f.1)) (take l.field-index l.fields)
