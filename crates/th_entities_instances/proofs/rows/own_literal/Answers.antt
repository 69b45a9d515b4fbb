use Rattle.std.proofs.Common.{rules}
use Rattle.sc_rule_instances.specs.Given.{term_at}
use Rattle.th_entities_instances.proofs.RowLaws.{own_place}
use Rattle.th_entities_instances.proofs.rows.own_literal.Goals as goal

pub returns : goal.returns
returns c = own_place c.args.problem.now (term_at c.args.problem.now c.args.e) c.args.place _ c.requires.place (search rules)
