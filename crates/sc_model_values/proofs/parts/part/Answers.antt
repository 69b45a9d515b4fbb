use Rattle.std.proofs.Common.{◌∙◌, sym, ap, subst, option_map}
use Rattle.sc_terms.specs.Tables.{IsTable, tree}
use Rattle.sc_model_values.proofs.PlaceLaws.{has_number, none_inside, companion_inside}
use Rattle.sc_model_values.proofs.parts.part.Goals as goal

pub unreachable-requires : goal.unreachable-requires
unreachable-requires c =
    has_number c.args.problem.now (subst IsTable c.terms.ensures c.laws-2.ensures) c.laws.ensures c.args.term c.requires.closed (sym c.number_of.ensures ∙ c.in_default.is)

pub unreachable-requires-in-None : goal.unreachable-requires-in-None
unreachable-requires-in-None c =
    none_inside c.args.problem.now (subst IsTable c.terms.ensures c.laws-2.ensures) c.laws.ensures c.args.term c.requires.closed c.in-Some.number c.args.place
    (sym c.number_of.ensures ∙ c.in-Some.is) c.requires.plain c.requires.there
    (sym (ap (option_map (tree c.args.problem.now.nodes)) c.in-None.is) ∙ c.companion.ensures.value)

pub returns-clause-value : goal.returns-clause-value
returns-clause-value c = sym (
    sym (ap (option_map (tree c.args.problem.now.nodes)) c.in-Some-companion.is)
    ∙ c.companion.ensures.value
    ∙ companion_inside c.args.problem.now (subst IsTable c.terms.ensures c.laws-2.ensures) c.laws.ensures c.args.term c.requires.closed c.in-Some.number c.args.place
    (sym c.number_of.ensures ∙ c.in-Some.is) c.requires.plain c.requires.there)
