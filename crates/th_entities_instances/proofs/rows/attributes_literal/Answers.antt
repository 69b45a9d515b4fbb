use Rattle.std.proofs.Common.{rules}
use Rattle.th_entities_instances.specs.Alike.{alike_parts}
use Rattle.th_entities_instances.specs.Roots.{unless_equal}
use Rattle.th_entities_instances.proofs.AlikeLaws.{behind_one, guard, within_one}
use Rattle.th_entities_instances.proofs.rows.attributes_literal.Goals as goal

pub returns-then-place-eq0 : goal.returns-then-place-eq0
returns-then-place-eq0 c = guard c.args.problem.now c.args.place _ (unless_equal c.args.problem.now c.args.entities) (alike_parts c.args.problem.now c.args.alike) c.if-place-eq0.true (search rules)

pub alike_literal-requires-clause-place : goal.alike_literal-requires-clause-place
alike_literal-requires-clause-place c = within_one c.args.problem.now c.args.alike (unless_equal c.args.problem.now c.args.entities) c.args.place c.requires.place c.if-place-eq0.false

pub returns : goal.returns
returns c = behind_one c.args.problem.now c.args.place _ (unless_equal c.args.problem.now c.args.entities) (alike_parts c.args.problem.now c.args.alike) c.if-place-eq0.false c.alike_literal.ensures
