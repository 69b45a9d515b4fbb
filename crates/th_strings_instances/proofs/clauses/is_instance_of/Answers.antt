use Rattle.std.proofs.lemmas.Result.{IfOk-weaker}
use Rattle.th_strings_instances.proofs.ClauseLaws.{instance_none, instance_not, instance_so}
use Rattle.th_strings_instances.proofs.clauses.is_instance_of.Goals as goal

pub returns-in_default : goal.returns-in_default
returns-in_default c = instance_none c.args.problem.now _ _ _ c.in_ok-literals.ensures c.in_default.is

pub returns-then-not-is_clause : goal.returns-then-not-is_clause
returns-then-not-is_clause c =
    instance_not c.args.problem.now _ _ _ c.in-Some.literals c.as_slice.result.now c.is_clause.result c.in_ok-literals.ensures c.in-Some.is c.as_slice.ensures c.is_clause.ensures c.if-not-is_clause.true

pub returns : goal.returns
returns c =
    IfOk-weaker c.is_crowded.result _ _ (λ b h. instance_so c.args.problem.now _ _ _ c.in-Some.literals c.as_slice.result.now c.is_clause.result b c.in_ok-literals.ensures c.in-Some.is c.as_slice.ensures c.is_clause.ensures c.if-not-is_clause.false h)
    c.is_crowded.ensures
