use Rattle.std.proofs.Common.{◌∙◌}
use Rattle.std.proofs.lemmas.Result.{IfOk-weaker}
use Rattle.th_entities.proofs.TheoryLaws.{clause_some, clause_none}
use Rattle.th_entities.proofs.theory.EntitiesTheory.clause.Goals as goal

pub returns-in-Some : goal.returns-in-Some
returns-in-Some c =
    IfOk-weaker c.clause_of.result _ _ (λ k e. e ∙ clause_some c.args.problem.now c.args.instance.now c.entity_rule.result c.in-Some.rule c.entity_rule.ensures c.in-Some.is) c.clause_of.ensures

pub returns-in-None : goal.returns-in-None
returns-in-None c = c.new.ensures ∙ clause_none c.args.problem.now c.args.instance.now c.entity_rule.result c.entity_rule.ensures c.in-None.is
