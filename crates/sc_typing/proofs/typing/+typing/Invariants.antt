use Rattle.std.proofs.Common.{◌≡◌, ℕ, ◌+◌, ◌*◌, max, List, map, drop}
use Rattle.sc_ast.specs.declared.expr.Expr.{Expr, size-Expr}
use Rattle.sc_typing.specs.Settings.{seen}
use Rattle.sc_typing_rules.specs.Rules.{all_typed, fields_typed}
use Rattle.sc_typing.proofs.ToComeLaws.{members_to_come, fields_to_come}
use Rattle.sc_typing.proofs.typing.+typing.Given as goal

abbrev pub decreases-type_expr : goal.decreases-type_expr
decreases-type_expr l = 5 * size-Expr l.expr.now

abbrev pub decreases-type_under : goal.decreases-type_under
decreases-type_under l = 5 * size-Expr l.expr.now + 2

abbrev pub decreases-choose : goal.decreases-choose
decreases-choose l = 5 * max (size-Expr l.c.now) (max (size-Expr l.a.now) (size-Expr l.b.now)) + 4

abbrev pub decreases-choose_open : goal.decreases-choose_open
decreases-choose_open l = 5 * max (size-Expr l.a.now) (size-Expr l.b.now) + 3

abbrev pub decreases-choose_first : goal.decreases-choose_first
decreases-choose_first l = 5 * size-Expr l.a.now + 3

abbrev pub decreases-choose_second : goal.decreases-choose_second
decreases-choose_second l = 5 * size-Expr l.b.now + 1

abbrev pub decreases-choose_rest : goal.decreases-choose_rest
decreases-choose_rest l = 5 * size-Expr l.b.now + 1

abbrev pub decreases-or_else : goal.decreases-or_else
decreases-or_else l = 5 * max (size-Expr l.a.now) (size-Expr l.b.now) + 3

abbrev pub decreases-and_also : goal.decreases-and_also
decreases-and_also l = 5 * max (size-Expr l.a.now) (size-Expr l.b.now) + 3

abbrev pub decreases-type_binary : goal.decreases-type_binary
decreases-type_binary l = 5 * max (size-Expr l.a.now) (size-Expr l.b.now) + 4

abbrev pub decreases-type_operands : goal.decreases-type_operands
decreases-type_operands l = 5 * max (size-Expr l.a.now) (size-Expr l.b.now) + 3

abbrev pub decreases-type_in : goal.decreases-type_in
decreases-type_in l = 5 * max (size-Expr l.a.now) (size-Expr l.b.now) + 3

abbrev pub decreases-type_right : goal.decreases-type_right
decreases-type_right l = 5 * size-Expr l.b.now + 1

abbrev pub decreases-type_has : goal.decreases-type_has
decreases-type_has l = 5 * size-Expr l.a.now + 1

abbrev pub decreases-type_like : goal.decreases-type_like
decreases-type_like l = 5 * size-Expr l.a.now + 1

abbrev pub decreases-type_is : goal.decreases-type_is
decreases-type_is l = 5 * size-Expr l.a.now + 1

abbrev pub decreases-type_is_in : goal.decreases-type_is_in
decreases-type_is_in l = 5 * max (size-Expr l.a.now) (size-Expr l.b.now) + 4

abbrev pub decreases-type_among : goal.decreases-type_among
decreases-type_among l = 5 * size-Expr l.b.now + 2

abbrev pub decreases-type_unary : goal.decreases-type_unary
decreases-type_unary l = 5 * size-Expr l.a.now + 1

abbrev pub decreases-type_access : goal.decreases-type_access
decreases-type_access l = 5 * size-Expr l.a.now + 1

abbrev pub decreases-type_set : goal.decreases-type_set
decreases-type_set l = 5 * goal.size-type_set l + 2

abbrev pub decreases-type_all : goal.decreases-type_all
decreases-type_all l = 5 * goal.size-type_all l + 1

abbrev pub decreases-type_record : goal.decreases-type_record
decreases-type_record l = 5 * goal.size-type_record l + 2

abbrev pub decreases-type_fields : goal.decreases-type_fields
decreases-type_fields l = 5 * goal.size-type_fields l + 1

abbrev pub invariant-type_all-loop-member : goal.invariant-type_all-loop-member
invariant-type_all-loop-member l =
    members_to_come l.setting.schema.now l.setting.env.now l.typed l.setting.known.now (drop l.member-index l.members)
    ≡ all_typed (map (seen l.setting) l.members) l.setting.known.now

abbrev pub invariant-type_fields-loop-field : goal.invariant-type_fields-loop-field
invariant-type_fields-loop-field l =
    fields_to_come l.setting.schema.now l.setting.env.now l.typed l.setting.known.now (drop l.field-index l.fields)
    ≡ fields_typed (map (λ (f : List ℕ × Expr). (f.0, seen l.setting f.1)) l.fields) l.setting.known.now
