use Rattle.std.proofs.Common.{List, Option, subst}
use Rattle.std.proofs.lemmas.Result.{on_ok_weaker}
use Rattle.sc_terms.specs.Trees.{Tree}
use Rattle.sc_terms.specs.Tables.{tree}
use Rattle.sc_term_definitions.specs.Making.{Puts}
use Rattle.sc_closure_rules.specs.Closure.{within_by}
use Rattle.sc_closure_rules.proofs.sets.put_within.Goals as goal

pub returns-clause-ok : goal.returns-clause-ok
returns-clause-ok c =
    on_ok_weaker c.put_within_if-outcome.result
    (subst (λ (o : Option (List Tree)). Puts c.args.terms.now c.put_within_if-outcome.new.terms c.args.numbers.now.items c.put_within_if-outcome.new.numbers.items (within_by o (tree c.args.terms.now c.args.a) (tree c.args.terms.now c.args.b)))
    c.in_ok-members.ensures.ok) c.put_within_if-outcome.ensures.ok
