use Rattle.std.proofs.Common.{sym, ◌∙◌}
use Rattle.sc_solver.specs.RuleLaws.{definition_is, others_are}
use Rattle.sc_solver.proofs.FoundLaws.{tells}
use Rattle.sc_solver.proofs.rules.RulesTheory.accepts.Goals as goal

pub returns-in-Definition : goal.returns-in-Definition
returns-in-Definition c = tells (definition_is c.args.problem.now c.args.instance.now (sym c.family_of.ensures ∙ c.in-Definition.is)).0 c.accepts.result c.accepts.ensures.decides

pub returns-in_default : goal.returns-in_default
returns-in_default c =
    tells (others_are c.args.problem.now c.args.instance.now (λ e. c.in_default.not-Definition (c.family_of.ensures ∙ e))) c.accepts-in_default.result c.accepts-in_default.ensures
