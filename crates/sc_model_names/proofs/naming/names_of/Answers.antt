use Rattle.std.proofs.Common.{List, ℕ, ◌∙◌, ap, map}
use Rattle.std.proofs.lemmas.Result.{IfOk-weaker}
use Rattle.sc_terms.specs.Tables.{tree}
use Rattle.sc_model_names.specs.Models.{truth_in}
use Rattle.sc_model_names.specs.Numbers.{named_terms}
use Rattle.sc_model_names.specs.Ids.{ids_of}
use Rattle.sc_model_names.specs.Namings.{name_of_term}
use Rattle.sc_model_names.proofs.ModelLaws.{is_model}
use Rattle.sc_model_names.proofs.naming.names_of.Goals as goal

pub returns-clause-model : goal.returns-clause-model
returns-clause-model c = IfOk-weaker c.write_names.result _ _ (λ names h.
    is_model c.args.problem.now c.laws.ensures c.args.m.now c.requires.consistent c.model_laws.ensures.model c.in_ok-named.named c.in_ok-named.ensures.names
    (named_terms c.args.problem.now.nodes c.as_slice-strings.result.now) (named_terms c.args.problem.now.nodes c.as_slice-ids.result.now) names
    (ap (named_terms c.args.problem.now.nodes) c.as_slice-strings.ensures)
    (ap (named_terms c.args.problem.now.nodes) c.as_slice-ids.ensures ∙ c.in_ok-identified.ensures.value
    ∙ ap (λ (ns : List ℕ). ids_of (truth_in c.args.problem.now c.args.m.now) (map (tree c.args.problem.now.nodes) ns)) (c.as_slice-numbers.ensures ∙ c.in_ok-closed.ensures))
    (h ∙ ap (λ (ns : List ℕ). map (name_of_term (truth_in c.args.problem.now c.args.m.now) (named_terms c.args.problem.now.nodes c.as_slice-strings.result.now)
    (named_terms c.args.problem.now.nodes c.as_slice-ids.result.now)) (map (tree c.args.problem.now.nodes) ns)) (c.as_slice-numbers.ensures ∙ c.in_ok-closed.ensures))) c.write_names.ensures.value
