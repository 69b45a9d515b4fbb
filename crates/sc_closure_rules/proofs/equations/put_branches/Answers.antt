use Rattle.std.proofs.lemmas.Result.{on_ok_weaker}
use Rattle.sc_closure_rules.proofs.InsideLaws.{no_branches, both_branches}
use Rattle.sc_closure_rules.proofs.equations.put_branches.Goals as goal

pub returns-then-is_bool-clause-ok : goal.returns-then-is_bool-clause-ok
returns-then-is_bool-clause-ok c = no_branches _ _ _ _ _ _ _ c.is_bool.ensures c.sort.ensures c.if-is_bool.true

pub returns-clause-ok : goal.returns-clause-ok
returns-clause-ok c = on_ok_weaker c.put_equal_to.result (both_branches _ _ _ _ _ _ _ _ _ c.is_bool.ensures c.sort.ensures c.if-is_bool.false) c.put_equal_to.ensures.ok
