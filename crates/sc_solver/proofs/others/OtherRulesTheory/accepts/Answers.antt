use Rattle.std.proofs.Common.{sym, ◌∙◌}
use Rattle.sc_solver.specs.OtherLaws.{of_equal, of_set, of_entity, of_string, no_definition, no_rule}
use Rattle.sc_solver.proofs.FoundLaws.{tells}
use Rattle.sc_solver.proofs.others.OtherRulesTheory.accepts.Goals as goal

pub returns-in-Equal : goal.returns-in-Equal
returns-in-Equal c = tells (of_equal c.args.problem.now c.args.instance.now (sym c.family_of.ensures ∙ c.in-Equal.is)).0 c.accepts.result c.accepts.ensures.decides

pub returns-in-Set : goal.returns-in-Set
returns-in-Set c = tells (of_set c.args.problem.now c.args.instance.now (sym c.family_of.ensures ∙ c.in-Set.is)).0 c.accepts-in-Set.result c.accepts-in-Set.ensures.decides

pub returns-in-Entity : goal.returns-in-Entity
returns-in-Entity c = tells (of_entity c.args.problem.now c.args.instance.now (sym c.family_of.ensures ∙ c.in-Entity.is)).0 c.accepts-in-Entity.result c.accepts-in-Entity.ensures.decides

pub returns-in-String : goal.returns-in-String
returns-in-String c = tells (of_string c.args.problem.now c.args.instance.now (sym c.family_of.ensures ∙ c.in-String.is)).0 c.accepts-in-String.result c.accepts-in-String.ensures

pub returns-in-Definition : goal.returns-in-Definition
returns-in-Definition c = (λ h. absurd cc, λ h. absurd (no_definition c.args.problem.now c.args.instance.now (sym c.family_of.ensures ∙ c.in-Definition.is) h))

pub returns-in-Other : goal.returns-in-Other
returns-in-Other c = (λ h. absurd cc, λ h. absurd (no_rule c.args.problem.now c.args.instance.now (sym c.family_of.ensures ∙ c.in-Other.is) h))
