use Rattle.std.proofs.Common.{List, Option, subst}
use Rattle.std.proofs.lemmas.Result.{on_ok_weaker}
use Rattle.sc_terms.specs.Trees.{Tree}
use Rattle.sc_terms.specs.Tables.{tree}
use Rattle.sc_term_definitions.specs.Making.{Puts}
use Rattle.sc_closure_rules.specs.Closure.{standing_by}
use Rattle.sc_closure_rules.proofs.sets.put_standing.Goals as goal

pub returns-clause-ok : goal.returns-clause-ok
returns-clause-ok c =
    on_ok_weaker c.put_standing_if-outcome.result
    (subst (λ (o : Option (List Tree)). Puts c.args.terms.now c.put_standing_if-outcome.new.terms c.args.numbers.now.items c.put_standing_if-outcome.new.numbers.items (standing_by o (tree c.args.terms.now c.args.n)))
    c.in_ok-members.ensures.ok) c.put_standing_if-outcome.ensures.ok
