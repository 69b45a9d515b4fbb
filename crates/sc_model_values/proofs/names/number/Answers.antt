use Rattle.std.proofs.Common.{◌∙◌, ℕ, Option, unwrap_or, ap, subst}
use Rattle.sc_terms.specs.Tables.{IsTable}
use Rattle.sc_footprint.proofs.IndexLaws.{number_told}
use Rattle.sc_model_values.proofs.names.number.Goals as goal

pub returns : goal.returns
returns c =
    let table = subst IsTable c.terms.ensures c.laws-2.ensures in
    c.unwrap_or.ensures ∙ ap (λ (o : Option ℕ). unwrap_or o 0) c.number_of.ensures ∙ number_told c.args.problem.now c.args.term table c.laws.ensures c.requires
