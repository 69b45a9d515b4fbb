use Rattle.std.proofs.lemmas.Result.{on_ok_weaker}
use Rattle.std.proofs.Common.{◌∙◌}
use Rattle.sc_closure_rules.proofs.AncestorLaws.{ancestors_put}
use Rattle.sc_closure_rules.proofs.ancestors.put_ancestors.Goals as goal

pub returns-clause-ok : goal.returns-clause-ok
returns-clause-ok c =
    on_ok_weaker c.put_by_sort-outcome.result (ancestors_put _ _ _ _ _ _ _ _ _ _ c.requires.is c.node.ensures.stands c.in_ok-own.ensures (c.in_ok-sort.ensures ∙ c.sort.ensures)) c.put_by_sort-outcome.ensures.ok
