use Rattle.std.proofs.Common.{None, Some, ◌∙◌, ap}
use Rattle.sc_terms.specs.Trees.{Tree}
use Rattle.sc_terms.specs.Tables.{tree}
use Rattle.sc_terms.specs.Folds.{equal_term, field_term}
use Rattle.sc_footprint.specs.Problems.{literal_in}
use Rattle.sc_rule_instances.specs.Given.{term_at}
use Rattle.th_equal.proofs.PartLaws.{field_there, other_field}
use Rattle.th_equal.proofs.rows.field_literal.Goals as goal

pub returns-in_default : goal.returns-in_default
returns-in_default c = λ f same at. absurd (field_there c.args.problem.now c.args.r c.args.field None f c.requires.r at c.in_default.ensures.value c.in_default.ensures.within)

pub returns-in_default-companion : goal.returns-in_default-companion
returns-in_default-companion c = λ f same at. absurd (field_there c.args.problem.now c.args.s c.args.field None f c.requires.s (other_field c.args.problem.now (term_at c.args.problem.now c.args.r) (term_at c.args.problem.now c.args.s) c.args.field f same at) c.in_default-companion.ensures.value c.in_default-companion.ensures.within)

pub returns : goal.returns
returns c = λ f same at.
    let x = (field_there c.args.problem.now c.args.r c.args.field (Some c.in-Some.x) f c.requires.r at c.in-Some.ensures.value c.in-Some.ensures.within).1 in
    let y = (field_there c.args.problem.now c.args.s c.args.field (Some c.in-Some-companion.y) f c.requires.s (other_field c.args.problem.now (term_at c.args.problem.now c.args.r) (term_at c.args.problem.now c.args.s) c.args.field f same at) c.in-Some-companion.ensures.value c.in-Some-companion.ensures.within).1 in
    c.equal.ensures ∙ ap (λ (t : Tree). literal_in c.args.problem.now (equal_term t (tree c.args.problem.now.nodes c.in-Some-companion.y))) x ∙ ap (λ (t : Tree). literal_in c.args.problem.now (equal_term (field_term f.0 (term_at c.args.problem.now c.args.r)) t)) y
