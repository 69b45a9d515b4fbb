use Rattle.std.proofs.Common.{List, Option, subst}
use Rattle.std.proofs.lemmas.Result.{on_ok_weaker}
use Rattle.sc_terms.specs.Trees.{Tree}
use Rattle.sc_terms.specs.Tables.{tree}
use Rattle.sc_term_definitions.specs.Making.{Puts}
use Rattle.sc_closure_rules.specs.Closure.{common_by}
use Rattle.sc_closure_rules.proofs.sets.put_common.Goals as goal

pub returns-clause-ok : goal.returns-clause-ok
returns-clause-ok c =
    on_ok_weaker c.put_common_if-outcome.result
    (subst (λ (q : Option (List Tree) × Option (List Tree)). Puts c.args.terms.now c.put_common_if-outcome.new.terms c.args.numbers.now.items c.put_common_if-outcome.new.numbers.items (common_by q.0 q.1 (tree c.args.terms.now c.args.a) (tree c.args.terms.now c.args.b)))
    (λ i. (c.in_ok-first.ensures.ok i, c.in_ok-second.ensures.ok i))) c.put_common_if-outcome.ensures.ok
