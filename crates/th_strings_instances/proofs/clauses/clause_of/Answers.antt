use Rattle.std.proofs.Common.{◌∙◌}
use Rattle.th_strings_instances.proofs.ClauseLaws.{clause_unnamed}
use Rattle.th_strings_instances.proofs.clauses.clause_of.Goals as goal

pub returns-in_default : goal.returns-in_default
returns-in_default c = c.new.ensures ∙ clause_unnamed c.args.problem.now c.args.instance.now _ c.in_ok-rule.ensures c.in_default.is
