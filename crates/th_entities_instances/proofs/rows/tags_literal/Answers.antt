use Rattle.std.proofs.Common.{rules}
use Rattle.th_entities_instances.specs.Alike.{alike_parts}
use Rattle.th_entities_instances.specs.Roots.{unless_equal}
use Rattle.th_entities_instances.proofs.AlikeLaws.{behind_two, guard, second_guard, within_two}
use Rattle.th_entities_instances.proofs.rows.tags_literal.Goals as goal

pub returns-then-place-eq0 : goal.returns-then-place-eq0
returns-then-place-eq0 c = guard c.args.problem.now c.args.place _ (unless_equal c.args.problem.now c.args.tags.entities) _ c.if-place-eq0.true (search rules)

pub returns-then-place-eq1 : goal.returns-then-place-eq1
returns-then-place-eq1 c = second_guard c.args.problem.now c.args.place _ _ (unless_equal c.args.problem.now c.args.tags.keys) _ c.if-place-eq1.true (search rules)

pub alike_literal-requires-clause-place : goal.alike_literal-requires-clause-place
alike_literal-requires-clause-place c =
    within_two c.args.problem.now c.args.alike (unless_equal c.args.problem.now c.args.tags.entities) (unless_equal c.args.problem.now c.args.tags.keys) c.args.place c.requires.place c.if-place-eq0.false c.if-place-eq1.false

pub returns : goal.returns
returns c =
    behind_two c.args.problem.now c.args.place _ (unless_equal c.args.problem.now c.args.tags.entities) (unless_equal c.args.problem.now c.args.tags.keys) (alike_parts c.args.problem.now c.args.alike) c.if-place-eq0.false c.if-place-eq1.false
    c.alike_literal.ensures
