use Rattle.std.proofs.Common.{◌++◌, ◌∙◌, sym, ap}
use Rattle.std.proofs.lemmas.Result.{on_ok_weaker}
use Rattle.sc_terms.specs.Tables.{tree}
use Rattle.sc_smtlib_lines.specs.Gaining.{terms_of}
use Rattle.sc_smtlib_lines.specs.Names.{definition}
use Rattle.sc_smtlib_lines.specs.Scripts.{with_newline}
use Rattle.sc_smtlib_lines.proofs.PlaceLaws.{nothing_at, number_within, term_at}
use Rattle.sc_smtlib_lines.proofs.assertions.put_definition.Goals as goal

pub returns-in_default : goal.returns-in_default
returns-in_default c =
    let s = c.args.names.now in
    absurd (nothing_at s.terms.now s.numbers.now.keys c.args.place (sym c.number_at.ensures.value ∙ c.in_default.is) c.requires.within)

pub definition-requires-clause-within : goal.definition-requires-clause-within
definition-requires-clause-within c =
    let s = c.args.names.now in
    number_within _ s.numbers.now.keys c.args.place c.in-Some.n c.requires.named.within (sym c.number_at.ensures.value ∙ c.in-Some.is)

pub returns : goal.returns
returns c =
    let s = c.args.names.now in
    let at = term_at s.terms.now s.numbers.now.keys c.args.place c.in-Some.n (tree s.terms.now c.args.goal) (sym c.number_at.ensures.value ∙ c.in-Some.is) in
    on_ok_weaker c.put_line.result
    (λ e. e ∙ ap (λ z. c.args.out.now.items ++ with_newline z) (c.as_slice.ensures.value ∙ c.in_ok-line.ensures ∙ ap (definition s.sorts.now (terms_of s)) (sym at)))
    c.put_line.ensures
