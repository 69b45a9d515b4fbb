use Rattle.std.proofs.Common.{◌∙◌, sym}
use Rattle.th_entities.proofs.AlikeLaws.{no_guard, of_kind, one_root, weaker_none}
use Rattle.th_entities.proofs.RunLaws.{rooted_are}
use Rattle.th_entities.proofs.alike.with_root.Goals as goal

pub returns-then-r-q-clause-none : goal.returns-then-r-q-clause-none
returns-then-r-q-clause-none c =
    one_root c.args.problem.now c.args.m.now c.args.r c.args.q c.args.run.now c.args.others.now c.requires.run c.requires.others c.laws.ensures c.if-r-q.true

pub with_any-requires-clause-run : goal.with_any-requires-clause-run
with_any-requires-clause-run c = rooted_are c.args.problem.now c.args.r c.args.run.now c.requires.run

pub with_any-requires-clause-others : goal.with_any-requires-clause-others
with_any-requires-clause-others c = rooted_are c.args.problem.now c.args.q c.args.others.now c.requires.others

pub returns-then-is_guard_out-clause-none : goal.returns-then-is_guard_out-clause-none
returns-then-is_guard_out-clause-none c =
    weaker_none c.with_any.result
    (of_kind c.args.problem.now c.args.m.now c.args.r c.args.q c.args.run.now c.args.others.now c.requires.run c.requires.others c.is_tag.result c.is_tag.ensures)
    c.with_any.ensures.none

pub returns-clause-none : goal.returns-clause-none
returns-clause-none c =
    no_guard c.args.problem.now c.args.m.now c.args.r c.args.q c.args.run.now c.args.others.now c.requires.run c.requires.others (sym c.is_guard_out.ensures ∙ c.if-is_guard_out.false)
