use Rattle.std.proofs.Common.{rules, Some, None, ◌≡◌, ◌∙◌, sym, ap}
use Rattle.sc_names.specs.declared.uid.Uid.{Uid}
use Rattle.sc_clauses.specs.Clauses.{positive}
use Rattle.sc_footprint.specs.Problems.{literal_in}
use Rattle.sc_rule_laws.specs.Terms.{entity}
use Rattle.sc_terms.specs.Folds.{equal_term}
use Rattle.sc_rule_instances.specs.Given.{term_at}
use Rattle.th_entities_instances.proofs.DeclaredLaws.{no_literal, one_literal, first_literal, each_literal}
use Rattle.th_entities_instances.proofs.rows.declared_literal.Goals as goal

pub returns-in_default : goal.returns-in_default
returns-in_default c = no_literal c.args.problem.now.schema (term_at c.args.problem.now c.args.s) (term_at c.args.problem.now c.args.x) c.args.problem.now c.args.place (positive 0) c.in_default.ensures

pub returns-then-is_one_of : goal.returns-then-is_one_of
returns-then-is_one_of c = one_literal c.args.problem.now.schema (term_at c.args.problem.now c.args.s) (term_at c.args.problem.now c.args.x) c.args.problem.now c.args.place _ c.in-Some.uids.now c.above_name-name.result.now c.in-Some.ensures c.above_name-name.ensures (sym c.is_one_of.ensures ∙ c.if-is_one_of.true) c.requires.place (search rules)

pub returns-then-place-eq0 : goal.returns-then-place-eq0
returns-then-place-eq0 c = first_literal c.args.problem.now.schema (term_at c.args.problem.now c.args.s) (term_at c.args.problem.now c.args.x) c.args.problem.now c.args.place _ c.in-Some.uids.now c.above_name-name.result.now c.in-Some.ensures c.above_name-name.ensures (sym c.is_one_of.ensures ∙ c.if-is_one_of.false) c.if-place-eq0.true (search rules)

pub returns-in_default-of_type_at : goal.returns-in_default-of_type_at
returns-in_default-of_type_at c =
    each_literal c.args.problem.now.schema (term_at c.args.problem.now c.args.s) (term_at c.args.problem.now c.args.x) c.args.problem.now c.args.place _ c.in-Some.uids.now c.above_name-name.result.now c.in-Some.ensures c.above_name-name.ensures (sym c.is_one_of.ensures ∙ c.if-is_one_of.false) c.requires.place c.if-place-eq0.false
    (λ u e. absurd (let f : None ≡ Some u = c.in_default-of_type_at.ensures ∙ e in cc))

pub returns : goal.returns
returns c =
    each_literal c.args.problem.now.schema (term_at c.args.problem.now c.args.s) (term_at c.args.problem.now c.args.x) c.args.problem.now c.args.place _ c.in-Some.uids.now c.above_name-name.result.now c.in-Some.ensures c.above_name-name.ensures (sym c.is_one_of.ensures ∙ c.if-is_one_of.false) c.requires.place c.if-place-eq0.false
    (λ u e. (let f : Some c.in-Some-of_type_at.uid.now ≡ Some u = c.in-Some-of_type_at.ensures ∙ e in let same : c.in-Some-of_type_at.uid.now ≡ u = cc in c.entity_equal.ensures ∙ ap (λ (v : Uid). literal_in c.args.problem.now (equal_term (term_at c.args.problem.now c.args.x) (entity c.args.problem.now.schema v))) same))
