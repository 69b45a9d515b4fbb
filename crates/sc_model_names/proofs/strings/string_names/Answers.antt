use Rattle.std.proofs.Common.{◌∙◌, ap, map}
use Rattle.std.proofs.lemmas.Result.{IfOk-weaker}
use Rattle.sc_terms.specs.Tables.{tree}
use Rattle.sc_model_values.specs.Models.{truth_in}
use Rattle.sc_model_laws.specs.Names.{named, literal_entries}
use Rattle.sc_model_names.specs.Tables.{Table, texts_in}
use Rattle.sc_model_names.proofs.NamingLaws.{strings_named}
use Rattle.sc_model_names.proofs.strings.string_names.Goals as goal

pub returns-clause-names : goal.returns-clause-names
returns-clause-names c = IfOk-weaker c.name_strings.result _ _ (λ es h.
    strings_named c.args.problem.now c.laws.ensures c.args.m.now c.requires c.model_laws.ensures.bounded c.as_slice-numbers.result.now c.as_slice-strings.result.now
    c.in_ok-classes.classes c.as_slice-patterns.result.now c.len-wanted.result c.in_ok-entered.entered es (c.as_slice-numbers.ensures ∙ c.in_ok-closed.ensures)
    (c.as_slice-patterns.ensures ∙ c.in_ok-asked.ensures) (ap (map (tree c.args.problem.now.nodes)) c.as_slice-strings.ensures ∙ c.in_ok-found.ensures.value)
    c.in_ok-classes.ensures c.len-wanted.ensures c.in_ok-entered.ensures
    (h ∙ ap (λ (table : Table). named (truth_in c.args.problem.now c.args.m.now) c.as_slice-patterns.result.now (texts_in table)
    (literal_entries (map (tree c.args.problem.now.nodes) c.as_slice-strings.result.now)) (map (tree c.args.problem.now.nodes) c.as_slice-strings.result.now)) c.as_slice-table.ensures)) c.name_strings.ensures.value
