use Rattle.std.proofs.Common.{false, arith}
use Rattle.sc_terms.specs.Folds.{truth_term, or_term}
use Rattle.sc_terms.proofs.JoinedLaws.{joined_step, joined_grows}
use Rattle.sc_terms.proofs.terms.Terms.+any_joined.Goals as goal

pub returns-in_ok-n-in_default-clause-ok : goal.returns-in_ok-n-in_default-clause-ok
returns-in_ok-n-in_default-clause-ok t c =
    joined_step or_term (truth_term false) _ _ _ _ _ _ _ _ (omega arith) c.requires c.in_ok-a-in_default.ensures.kept c.in_ok-b-in_default.ensures.kept c.in_ok-a-in_default.ensures.ok c.in_ok-b-in_default.ensures.ok c.in_ok-n-in_default.ensures.ok

pub returns-in_ok-n-in_default-clause-grows : goal.returns-in_ok-n-in_default-clause-grows
returns-in_ok-n-in_default-clause-grows t c =
    joined_grows _ _ _ _ c.args.xs.now (omega arith) c.in_ok-a-in_default.ensures.grows c.in_ok-b-in_default.ensures.grows c.in_ok-n-in_default.ensures.grows
