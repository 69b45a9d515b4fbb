use Rattle.std.proofs.Common.{◌+◌, ◌*◌, max, map, take}
use Rattle.sc_typed.specs.declared.typed_expr.TypedExpr.{size-TypedExpr}
use Rattle.sc_terms.specs.Tables.{Keeps}
use Rattle.sc_constructs.specs.Numbers.{StandAs, StandAsFields}
use Rattle.sc_symeval.specs.Settings.{IsReady, codes_in, field_in}
use Rattle.sc_symeval.proofs.compiling.+compile.Given as goal

abbrev pub decreases-compile_in : goal.decreases-compile_in
decreases-compile_in l = 4 * size-TypedExpr l.expr.now

abbrev pub decreases-choice : goal.decreases-choice
decreases-choice l = 4 * (max (size-TypedExpr l.c.now) (max (size-TypedExpr l.a.now) (size-TypedExpr l.b.now))) + 2

abbrev pub decreases-taken : goal.decreases-taken
decreases-taken l = 4 * (max (size-TypedExpr l.c.now) (size-TypedExpr l.a.now)) + 1

abbrev pub decreases-chosen : goal.decreases-chosen
decreases-chosen l = 4 * (max (size-TypedExpr l.c.now) (max (size-TypedExpr l.a.now) (size-TypedExpr l.b.now))) + 1

abbrev pub decreases-either : goal.decreases-either
decreases-either l = 4 * (max (size-TypedExpr l.a.now) (size-TypedExpr l.b.now)) + 1

abbrev pub decreases-both : goal.decreases-both
decreases-both l = 4 * (max (size-TypedExpr l.a.now) (size-TypedExpr l.b.now)) + 1

abbrev pub decreases-operated : goal.decreases-operated
decreases-operated l = 4 * (max (size-TypedExpr l.a.now) (size-TypedExpr l.b.now)) + 1

abbrev pub decreases-tested_among : goal.decreases-tested_among
decreases-tested_among l = 4 * (max (size-TypedExpr l.a.now) (size-TypedExpr l.b.now)) + 1

abbrev pub decreases-tested_in : goal.decreases-tested_in
decreases-tested_in l = 4 * (max (size-TypedExpr l.a.now) (size-TypedExpr l.b.now)) + 2

abbrev pub decreases-having : goal.decreases-having
decreases-having l = 4 * size-TypedExpr l.a.now + 1

abbrev pub decreases-matching : goal.decreases-matching
decreases-matching l = 4 * size-TypedExpr l.a.now + 1

abbrev pub decreases-tested : goal.decreases-tested
decreases-tested l = 4 * size-TypedExpr l.a.now + 1

abbrev pub decreases-refused : goal.decreases-refused
decreases-refused l = 4 * size-TypedExpr l.a.now + 1

abbrev pub decreases-applied : goal.decreases-applied
decreases-applied l = 4 * size-TypedExpr l.a.now + 1

abbrev pub decreases-accessed : goal.decreases-accessed
decreases-accessed l = 4 * size-TypedExpr l.a.now + 1

abbrev pub decreases-set : goal.decreases-set
decreases-set l = 4 * goal.size-set l + 2

abbrev pub decreases-all_of : goal.decreases-all_of
decreases-all_of l = 4 * goal.size-all_of l + 1

abbrev pub decreases-record : goal.decreases-record
decreases-record l = 4 * goal.size-record l + 2

abbrev pub decreases-all_fields : goal.decreases-all_fields
decreases-all_fields l = 4 * goal.size-all_fields l + 1

abbrev pub invariant-all_of-loop-member : goal.invariant-all_of-loop-member
invariant-all_of-loop-member l = record {
  ready : IsReady l.terms l.setting;
  kept : Keeps l.fn.terms l.terms;
  made : StandAs l.terms l.codes (codes_in l.setting (take l.member-index l.members));
}

abbrev pub invariant-all_fields-loop-field : goal.invariant-all_fields-loop-field
invariant-all_fields-loop-field l = record {
  ready : IsReady l.terms l.setting;
  kept : Keeps l.fn.terms l.terms;
  made : StandAsFields l.terms l.codes (map (field_in l.setting) (take l.field-index l.fields));
}
