use Rattle.std.proofs.Common.{Some, None, ◌≡◌, ◌∙◌, ap, slice_get, List}
use Rattle.sc_names.specs.declared.uid.Uid.{Uid}
use Rattle.sc_footprint.specs.Problems.{literal_in}
use Rattle.sc_rule_laws.specs.Terms.{entity}
use Rattle.sc_terms.specs.Folds.{equal_term}
use Rattle.sc_rule_instances.specs.Given.{term_at}
use Rattle.th_entities_instances.proofs.RowLaws.{chosen_literal, chosen_place}
use Rattle.th_entities_instances.proofs.rows.chosen_literal.Goals as goal

pub returns-in_default : goal.returns-in_default
returns-in_default c =
    chosen_literal c.args.problem.now c.args.problem.now.schema (term_at c.args.problem.now c.args.x) c.args.asked c.args.place _ c.requires.place
    (λ u e. absurd (let f : None ≡ Some u = c.in_default.ensures (chosen_place c.args.problem.now.schema (term_at c.args.problem.now c.args.x) c.args.asked c.choices_of-uids.result.now c.args.place c.choices_of-uids.ensures c.requires.place)
    ∙ ap (λ (us : List Uid). slice_get us c.args.place) c.choices_of-uids.ensures ∙ e in cc))

pub returns : goal.returns
returns c =
    chosen_literal c.args.problem.now c.args.problem.now.schema (term_at c.args.problem.now c.args.x) c.args.asked c.args.place _ c.requires.place
    (λ u e. (let f : Some c.in-Some.uid.now ≡ Some u = c.in-Some.ensures (chosen_place c.args.problem.now.schema (term_at c.args.problem.now c.args.x) c.args.asked c.choices_of-uids.result.now c.args.place c.choices_of-uids.ensures c.requires.place)
    ∙ ap (λ (us : List Uid). slice_get us c.args.place) c.choices_of-uids.ensures ∙ e in let same : c.in-Some.uid.now ≡ u = cc in c.entity_equal.ensures ∙ ap (λ (v : Uid). literal_in c.args.problem.now (equal_term (term_at c.args.problem.now c.args.x) (entity c.args.problem.now.schema v))) same))
