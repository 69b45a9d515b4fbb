use Rattle.std.proofs.Common.{rules}
use Rattle.sc_typed.specs.declared.typed_expr.TypedExpr.{the_lemmas}
use Rattle.sc_symeval.proofs.StandLaws.{still_ready, binary_stands, among_stands, path_stands, unary_stands, access_stands, gives_If, gives_Or, gives_And, gives_Binary, gives_Has, gives_Like, gives_Is, gives_IsIn, gives_Unary, gives_Access, gives_Literal, gives_Variable, gives_Set, gives_Record, gives_Skipped}
use Rattle.sc_terms.proofs.TableLaws.{keeps_then}
use Rattle.sc_constructs.proofs.NumbersLaws.{ready_later}
use Rattle.sc_symeval.proofs.CollectionLaws.{member_more, field_more}
use Rattle.sc_symeval.proofs.compiling.+compile.Goals as goal

pub compile_in-returns-in-If-clause-ok : goal.compile_in-returns-in-If-clause-ok
compile_in-returns-in-If-clause-ok t c = gives_If _ _ _ _ _ _ _ _ _ _ _ _ _ c.in-If.is c.get.ensures c.get-in-If.ensures c.get-in-If-2.ensures c.choice.ensures.ok

pub compile_in-returns-in-Or-clause-ok : goal.compile_in-returns-in-Or-clause-ok
compile_in-returns-in-Or-clause-ok t c = gives_Or _ _ _ _ _ _ _ _ _ _ _ c.in-Or.is c.get-in-Or.ensures c.get-in-Or-2.ensures c.either.ensures.ok

pub compile_in-returns-in-And-clause-ok : goal.compile_in-returns-in-And-clause-ok
compile_in-returns-in-And-clause-ok t c = gives_And _ _ _ _ _ _ _ _ _ _ _ c.in-And.is c.get-in-And.ensures c.get-in-And-2.ensures c.both.ensures.ok

pub compile_in-returns-in-Binary-clause-ok : goal.compile_in-returns-in-Binary-clause-ok
compile_in-returns-in-Binary-clause-ok t c = gives_Binary _ _ _ _ _ _ _ _ _ _ _ _ c.in-Binary.is c.get-in-Binary.ensures c.get-in-Binary-2.ensures c.operated.ensures.ok

pub compile_in-returns-in-Has-clause-ok : goal.compile_in-returns-in-Has-clause-ok
compile_in-returns-in-Has-clause-ok t c = gives_Has _ _ _ _ _ _ _ _ _ _ _ _ c.in-Has.is c.get-in-Has.ensures c.as_slice.ensures c.having.ensures.ok

pub compile_in-returns-in-Like-clause-ok : goal.compile_in-returns-in-Like-clause-ok
compile_in-returns-in-Like-clause-ok t c = gives_Like _ _ _ _ _ _ _ _ _ _ c.in-Like.is c.get-in-Like.ensures c.matching.ensures.ok

pub compile_in-returns-in-Is-clause-ok : goal.compile_in-returns-in-Is-clause-ok
compile_in-returns-in-Is-clause-ok t c = gives_Is _ _ _ _ _ _ _ _ _ _ c.in-Is.is c.get-in-Is.ensures c.tested.ensures.ok

pub compile_in-returns-in-IsIn-clause-ok : goal.compile_in-returns-in-IsIn-clause-ok
compile_in-returns-in-IsIn-clause-ok t c = gives_IsIn _ _ _ _ _ _ _ _ _ _ _ _ _ c.in-IsIn.is c.get-in-IsIn.ensures c.get-in-IsIn-2.ensures c.tested_in.ensures.ok

pub compile_in-returns-in-Unary-clause-ok : goal.compile_in-returns-in-Unary-clause-ok
compile_in-returns-in-Unary-clause-ok t c = gives_Unary _ _ _ _ _ _ _ _ _ _ c.in-Unary.is c.get-in-Unary.ensures c.applied.ensures.ok

pub compile_in-returns-in-Access-clause-ok : goal.compile_in-returns-in-Access-clause-ok
compile_in-returns-in-Access-clause-ok t c = gives_Access _ _ _ _ _ _ _ _ _ _ c.in-Access.is c.get-in-Access.ensures c.accessed.ensures.ok

pub compile_in-returns-in-Literal-clause-ok : goal.compile_in-returns-in-Literal-clause-ok
compile_in-returns-in-Literal-clause-ok t c = gives_Literal _ _ _ _ _ _ _ _ c.in-Literal.is c.literal.ensures.ok

pub compile_in-returns-in-Variable-clause-ok : goal.compile_in-returns-in-Variable-clause-ok
compile_in-returns-in-Variable-clause-ok t c = gives_Variable _ _ _ _ _ _ _ _ c.in-Variable.is c.variable.ensures.ok

pub compile_in-returns-in-Set-clause-ok : goal.compile_in-returns-in-Set-clause-ok
compile_in-returns-in-Set-clause-ok t c = gives_Set _ _ _ _ _ _ _ _ _ c.in-Set.is c.as_slice-in-Set.ensures c.set.ensures.ok

pub compile_in-returns-in-Record-clause-ok : goal.compile_in-returns-in-Record-clause-ok
compile_in-returns-in-Record-clause-ok t c = gives_Record _ _ _ _ _ _ _ _ _ c.in-Record.is c.as_slice-in-Record.ensures c.record.ensures.ok

pub compile_in-returns-in-Skipped-clause-ok : goal.compile_in-returns-in-Skipped-clause-ok
compile_in-returns-in-Skipped-clause-ok t c = gives_Skipped _ _ _ _ _ _ c.in-Skipped.is c.constant.ensures.ok

pub compile_in-choice-requires : goal.compile_in-choice-requires
compile_in-choice-requires t c = (search (rules, the_lemmas), c.requires)

pub compile_in-either-requires : goal.compile_in-either-requires
compile_in-either-requires t c = (search (rules, the_lemmas), c.requires)

pub compile_in-both-requires : goal.compile_in-both-requires
compile_in-both-requires t c = (search (rules, the_lemmas), c.requires)

pub compile_in-operated-requires : goal.compile_in-operated-requires
compile_in-operated-requires t c = (search (rules, the_lemmas), c.requires)

pub compile_in-having-requires : goal.compile_in-having-requires
compile_in-having-requires t c = (search (rules, the_lemmas), c.requires)

pub compile_in-matching-requires : goal.compile_in-matching-requires
compile_in-matching-requires t c = (search (rules, the_lemmas), c.requires)

pub compile_in-tested-requires : goal.compile_in-tested-requires
compile_in-tested-requires t c = (search (rules, the_lemmas), c.requires)

pub compile_in-tested_in-requires : goal.compile_in-tested_in-requires
compile_in-tested_in-requires t c = (search (rules, the_lemmas), c.requires)

pub compile_in-applied-requires : goal.compile_in-applied-requires
compile_in-applied-requires t c = (search (rules, the_lemmas), c.requires)

pub compile_in-accessed-requires : goal.compile_in-accessed-requires
compile_in-accessed-requires t c = (search (rules, the_lemmas), c.requires)

pub compile_in-set-requires : goal.compile_in-set-requires
compile_in-set-requires t c = (search (rules, the_lemmas), c.requires)

pub compile_in-record-requires : goal.compile_in-record-requires
compile_in-record-requires t c = (search (rules, the_lemmas), c.requires)

pub choice-taken-requires : goal.choice-taken-requires
choice-taken-requires t c = (search rules, c.requires)

pub choice-taken-requires-then-is_false : goal.choice-taken-requires-then-is_false
choice-taken-requires-then-is_false t c = (search rules, c.requires)

pub choice-chosen-requires : goal.choice-chosen-requires
choice-chosen-requires t c = (search rules, c.requires)

pub tested_in-tested_among-requires : goal.tested_in-tested_among-requires
tested_in-tested_among-requires t c = (search rules, c.requires)

pub tested_in-refused-requires : goal.tested_in-refused-requires
tested_in-refused-requires t c = (search rules, c.requires)

pub set-all_of-requires : goal.set-all_of-requires
set-all_of-requires t c = (search rules, c.requires)

pub record-all_fields-requires : goal.record-all_fields-requires
record-all_fields-requires t c = (search rules, c.requires)

pub taken-compile_in-requires : goal.taken-compile_in-requires
taken-compile_in-requires t c = (search rules, c.requires)

pub taken-compile_in-requires-2 : goal.taken-compile_in-requires-2
taken-compile_in-requires-2 t c = (search rules, still_ready _ _ c.args.setting.now c.in_ok-test.ensures.kept c.requires)

pub chosen-compile_in-requires : goal.chosen-compile_in-requires
chosen-compile_in-requires t c = (search rules, c.requires)

pub chosen-compile_in-requires-2 : goal.chosen-compile_in-requires-2
chosen-compile_in-requires-2 t c = (search rules, still_ready _ _ c.args.setting.now c.in_ok-test.ensures.kept c.requires)

pub chosen-compile_in-requires-3 : goal.chosen-compile_in-requires-3
chosen-compile_in-requires-3 t c = (search rules, still_ready _ _ c.args.setting.now (keeps_then _ _ _ c.in_ok-test.ensures.kept c.in_ok-x.ensures.kept) c.requires)

pub either-compile_in-requires-2 : goal.either-compile_in-requires-2
either-compile_in-requires-2 t c = (search rules, c.requires)

pub either-compile_in-requires-3 : goal.either-compile_in-requires-3
either-compile_in-requires-3 t c = (search rules, still_ready _ _ c.args.setting.now c.in_ok-x.ensures.kept c.requires)

pub both-compile_in-requires-2 : goal.both-compile_in-requires-2
both-compile_in-requires-2 t c = (search rules, c.requires)

pub both-compile_in-requires-3 : goal.both-compile_in-requires-3
both-compile_in-requires-3 t c = (search rules, still_ready _ _ c.args.setting.now c.in_ok-x.ensures.kept c.requires)

pub operated-compile_in-requires : goal.operated-compile_in-requires
operated-compile_in-requires t c = (search rules, c.requires)

pub operated-compile_in-requires-2 : goal.operated-compile_in-requires-2
operated-compile_in-requires-2 t c = (search rules, still_ready _ _ c.args.setting.now c.in_ok-x.ensures.kept c.requires)

pub tested_among-compile_in-requires : goal.tested_among-compile_in-requires
tested_among-compile_in-requires t c = (search rules, c.requires)

pub tested_among-compile_in-requires-2 : goal.tested_among-compile_in-requires-2
tested_among-compile_in-requires-2 t c = (search rules, still_ready _ _ c.args.setting.now c.in_ok-x.ensures.kept c.requires)

pub having-compile_in-requires : goal.having-compile_in-requires
having-compile_in-requires t c = (search rules, c.requires)

pub matching-compile_in-requires : goal.matching-compile_in-requires
matching-compile_in-requires t c = (search rules, c.requires)

pub tested-compile_in-requires : goal.tested-compile_in-requires
tested-compile_in-requires t c = (search rules, c.requires)

pub refused-compile_in-requires : goal.refused-compile_in-requires
refused-compile_in-requires t c = (search rules, c.requires)

pub applied-compile_in-requires : goal.applied-compile_in-requires
applied-compile_in-requires t c = (search rules, c.requires)

pub accessed-compile_in-requires : goal.accessed-compile_in-requires
accessed-compile_in-requires t c = (search rules, c.requires)

pub either-compile_in-requires : goal.either-compile_in-requires
either-compile_in-requires t c = (search rules, c.requires)

pub both-compile_in-requires : goal.both-compile_in-requires
both-compile_in-requires t c = (search rules, c.requires)

pub all_of-compile_in-requires : goal.all_of-compile_in-requires
all_of-compile_in-requires t c = (search (rules, the_lemmas), c.loop-member.invariant.ready)

pub all_fields-compile_in-requires : goal.all_fields-compile_in-requires
all_fields-compile_in-requires t c = (search (rules, the_lemmas), c.loop-field.invariant.ready)

pub operated-returns-clause-ok : goal.operated-returns-clause-ok
operated-returns-clause-ok t c = binary_stands _ _ _ _ _ _ _ _ c.in_ok-x.ensures.ok c.in_ok-y.ensures.kept c.in_ok-y.ensures.ok _ _ _ _ _ c.in_ok-opt.ensures.ok

pub tested_among-returns-clause-ok : goal.tested_among-returns-clause-ok
tested_among-returns-clause-ok t c = among_stands _ _ _ _ _ _ _ _ c.in_ok-x.ensures.ok c.in_ok-y.ensures.kept c.in_ok-y.ensures.ok _ _ _ _ c.in_ok-opt.ensures.ok

pub having-returns-clause-ok : goal.having-returns-clause-ok
having-returns-clause-ok t c =
    path_stands _ _ _ _ _ c.in_ok-x.ensures.ok c.args.setting.now.schema.now c.args.steps.now c.in_ok-opt.ensures.ok

pub applied-returns-clause-ok : goal.applied-returns-clause-ok
applied-returns-clause-ok t c = unary_stands _ _ _ _ _ c.in_ok-x.ensures.ok _ _ c.in_ok-opt.ensures.ok

pub accessed-returns-clause-ok : goal.accessed-returns-clause-ok
accessed-returns-clause-ok t c = access_stands _ _ _ _ _ c.in_ok-x.ensures.ok _ _ _ c.in_ok-opt.ensures.ok

pub all_of-loop-member-preserved : goal.all_of-loop-member-preserved
all_of-loop-member-preserved t c = record {
  ready = ready_later _ _ _ _ _ c.in_ok-opt.ensures.kept c.loop-member.invariant.ready;
  kept = keeps_then _ _ _ c.loop-member.invariant.kept c.in_ok-opt.ensures.kept;
  made = member_more c.args.setting.now _ _ c.args.members.now c.loop-member.member-index c.member-item.result _ _ c.in_ok-opt.opt c.member-item.is c.loop-member-test.true c.in_ok-opt.ensures.kept c.loop-member.invariant.made c.in_ok-opt.ensures.ok
      c.in_ok-push.ensures.ok;
}

pub all_fields-loop-field-preserved : goal.all_fields-loop-field-preserved
all_fields-loop-field-preserved t c = record {
  ready = ready_later _ _ _ _ _ c.in_ok-opt.ensures.kept c.loop-field.invariant.ready;
  kept = keeps_then _ _ _ c.loop-field.invariant.kept c.in_ok-opt.ensures.kept;
  made = field_more c.args.setting.now _ _ c.args.fields.now c.loop-field.field-index c.field-item.result _ _ c.in_ok-name.name c.in_ok-opt.opt c.field-item.is c.loop-field-test.true c.in_ok-opt.ensures.kept c.loop-field.invariant.made c.in_ok-name.ensures c.in_ok-opt.ensures.ok
      c.in_ok-push.ensures.ok;
}
