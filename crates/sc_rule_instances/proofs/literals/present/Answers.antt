use Rattle.std.proofs.Common.{◌∙◌, sym, ap}
use Rattle.sc_terms.specs.Tables.{tree}
use Rattle.sc_footprint.specs.Problems.{literal_in}
use Rattle.sc_rule_instances.proofs.LookupLaws.{found_present, absent_literal, present_plain}
use Rattle.sc_rule_instances.proofs.literals.present.Goals as goal

pub returns-then-is_absent : goal.returns-then-is_absent
returns-then-is_absent c =
    c.of_truth.ensures ∙ sym (absent_literal c.args.problem.now (tree c.args.problem.now.nodes c.args.option) (sym c.is_absent.ensures ∙ c.if-is_absent.true))

pub returns : goal.returns
returns c =
    found_present c.args.problem.now (tree c.args.problem.now.nodes c.args.option) c.find.result c.literal_if.result c.laws.ensures c.find.ensures c.literal_if.ensures.some c.literal_if.ensures.none
    ∙ ap (literal_in c.args.problem.now) (sym (present_plain (tree c.args.problem.now.nodes c.args.option) (sym c.is_absent.ensures ∙ c.if-is_absent.false)))
