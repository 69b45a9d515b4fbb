use Rattle.std.proofs.Common.{sym, ◌∙◌}
use Rattle.std.proofs.lemmas.Result.{IfOk-weaker}
use Rattle.sc_solver.specs.RuleLaws.{definition_is, others_are}
use Rattle.sc_solver.proofs.rules.RulesTheory.clause.Goals as goal

pub clause-requires : goal.clause-requires
clause-requires c = (definition_is c.args.problem.now c.args.instance.now (sym c.family_of.ensures ∙ c.in-Definition.is)).0.1 c.requires

pub clause-requires-in_default : goal.clause-requires-in_default
clause-requires-in_default c = (others_are c.args.problem.now c.args.instance.now (λ e. c.in_default.not-Definition (c.family_of.ensures ∙ e))).1 c.requires

pub returns-in-Definition : goal.returns-in-Definition
returns-in-Definition c = IfOk-weaker c.clause.result _ _ (λ k e. e ∙ (definition_is c.args.problem.now c.args.instance.now (sym c.family_of.ensures ∙ c.in-Definition.is)).1) c.clause.ensures
