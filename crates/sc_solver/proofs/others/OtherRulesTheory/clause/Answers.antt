use Rattle.std.proofs.Common.{sym, ◌∙◌}
use Rattle.std.proofs.lemmas.Result.{IfOk-weaker}
use Rattle.sc_solver.specs.OtherLaws.{of_equal, of_set, of_entity, of_string, no_definition, no_rule}
use Rattle.sc_solver.proofs.others.OtherRulesTheory.clause.Goals as goal

pub clause-requires : goal.clause-requires
clause-requires c = (of_equal c.args.problem.now c.args.instance.now (sym c.family_of.ensures ∙ c.in-Equal.is)).0.1 c.requires

pub clause-requires-in-Set : goal.clause-requires-in-Set
clause-requires-in-Set c = (of_set c.args.problem.now c.args.instance.now (sym c.family_of.ensures ∙ c.in-Set.is)).0.1 c.requires

pub clause-requires-in-Entity : goal.clause-requires-in-Entity
clause-requires-in-Entity c = (of_entity c.args.problem.now c.args.instance.now (sym c.family_of.ensures ∙ c.in-Entity.is)).0.1 c.requires

pub clause-requires-in-String : goal.clause-requires-in-String
clause-requires-in-String c = (of_string c.args.problem.now c.args.instance.now (sym c.family_of.ensures ∙ c.in-String.is)).0.1 c.requires

pub returns-in-Equal : goal.returns-in-Equal
returns-in-Equal c = IfOk-weaker c.clause.result _ _ (λ k e. e ∙ (of_equal c.args.problem.now c.args.instance.now (sym c.family_of.ensures ∙ c.in-Equal.is)).1) c.clause.ensures

pub returns-in-Set : goal.returns-in-Set
returns-in-Set c = IfOk-weaker c.clause-in-Set.result _ _ (λ k e. e ∙ (of_set c.args.problem.now c.args.instance.now (sym c.family_of.ensures ∙ c.in-Set.is)).1) c.clause-in-Set.ensures

pub returns-in-Entity : goal.returns-in-Entity
returns-in-Entity c = IfOk-weaker c.clause-in-Entity.result _ _ (λ k e. e ∙ (of_entity c.args.problem.now c.args.instance.now (sym c.family_of.ensures ∙ c.in-Entity.is)).1) c.clause-in-Entity.ensures

pub returns-in-String : goal.returns-in-String
returns-in-String c = IfOk-weaker c.clause-in-String.result _ _ (λ k e. e ∙ (of_string c.args.problem.now c.args.instance.now (sym c.family_of.ensures ∙ c.in-String.is)).1) c.clause-in-String.ensures

pub returns-in-Definition : goal.returns-in-Definition
returns-in-Definition c = absurd (no_definition c.args.problem.now c.args.instance.now (sym c.family_of.ensures ∙ c.in-Definition.is) c.requires)

pub returns-in-Other : goal.returns-in-Other
returns-in-Other c = absurd (no_rule c.args.problem.now c.args.instance.now (sym c.family_of.ensures ∙ c.in-Other.is) c.requires)
