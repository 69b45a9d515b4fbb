use Rattle.std.proofs.Common.{rules}
use Rattle.sc_rule_instances.specs.Given.{term_at}
use Rattle.th_entities_instances.proofs.RowLaws.{first, last_of_two, lacking_said, lacking_tag}
use Rattle.th_entities_instances.proofs.rows.lacking_literal.Goals as goal

pub returns-then-place-eq0 : goal.returns-then-place-eq0
returns-then-place-eq0 c = first c.args.problem.now _ _ _ _ _ _ (lacking_said (term_at c.args.problem.now c.args.a)) c.requires.place c.if-place-eq0.true (search rules)

pub returns : goal.returns
returns c = last_of_two c.args.problem.now _ _ _ _ _ _ (lacking_said (term_at c.args.problem.now c.args.a)) c.requires.place c.if-place-eq0.false (search rules)

pub default_literal-requires-clause-tag : goal.default_literal-requires-clause-tag
default_literal-requires-clause-tag c = lacking_tag c.args.problem.now (term_at c.args.problem.now c.args.a) c.args.place c.requires.place
