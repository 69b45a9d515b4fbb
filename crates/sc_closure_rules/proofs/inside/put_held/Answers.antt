use Rattle.std.proofs.Common.{◌∙◌, ap, subst, Option}
use Rattle.std.proofs.lemmas.Result.{on_ok_weaker}
use Rattle.sc_sorts.specs.declared.sort.Sort.{Sort, out-Sort}
use Rattle.sc_terms.specs.Tables.{tree}
use Rattle.sc_term_definitions.specs.Making.{Puts}
use Rattle.sc_closure_rules.specs.Beside.{held_option, held_terms}
use Rattle.sc_closure_rules.proofs.inside.put_held.Goals as goal

pub returns-clause-ok : goal.returns-clause-ok
returns-clause-ok c =
    on_ok_weaker c.put_option_if-outcome.result
    (subst (λ (o : Option Sort). Puts c.args.terms.now c.put_option_if-outcome.new.terms c.args.numbers.now.items c.put_option_if-outcome.new.numbers.items (held_terms o (tree c.args.terms.now c.args.n)))
    (c.in_ok-held.ensures ∙ ap (λ (k : Sort). held_option (out-Sort k)) c.sort.ensures)) c.put_option_if-outcome.ensures.ok
