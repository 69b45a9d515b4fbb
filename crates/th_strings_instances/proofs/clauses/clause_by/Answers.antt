use Rattle.std.proofs.Common.{◌∙◌}
use Rattle.th_strings_instances.proofs.ClauseLaws.{clause_some, clause_none}
use Rattle.th_strings_instances.proofs.clauses.clause_by.Goals as goal

pub returns-in-Some : goal.returns-in-Some
returns-in-Some c = clause_some c.args.problem.now _ _ _ c.in_ok-clause.ensures c.in-Some.is

pub returns-in-None : goal.returns-in-None
returns-in-None c = c.new.ensures ∙ clause_none c.args.problem.now _ _ c.in_ok-clause.ensures c.in-None.is
