use Rattle.std.proofs.Common.{length, arith}
use Rattle.sc_terms.specs.Tables.{tree}
use Rattle.sc_closure_rules.proofs.MakingLaws.{puts_nothing}
use Rattle.sc_closure_rules.proofs.LoopLaws.{all_end}
use Rattle.sc_candidates.specs.Crowds.{IsCrowdWithin, set_of}
use Rattle.sc_candidates.proofs.CrowdLoopLaws.{crowd_within_later, sets_next}
use Rattle.sc_candidates.proofs.DividedLaws.{item_at}
use Rattle.sc_candidates.proofs.memberships.meet_set.Goals as goal

pub loop-crowd-init : goal.loop-crowd-init
loop-crowd-init c = puts_nothing _ _

pub meet_linked_crowd-requires-clause-crowd_in : goal.meet_linked_crowd-requires-clause-crowd_in
meet_linked_crowd-requires-clause-crowd_in c =
    crowd_within_later (length c.args.terms.now) (length c.loop-crowd.terms) c.crowd-item.result c.loop-crowd.invariant.kept.longer
    (item_at (IsCrowdWithin (length c.args.terms.now)) c.args.crowds.now c.requires.crowds_in c.loop-crowd.crowd-index c.crowd-item.result c.loop-crowd-test.true c.crowd-item.is)

pub loop-crowd-preserved : goal.loop-crowd-preserved
loop-crowd-preserved c =
    sets_next c.args.crowds.now _ _ _ _ _ _ c.loop-crowd.crowd-index c.crowd-item.result c.loop-crowd-test.true c.crowd-item.is c.requires.crowds_in c.args.set c.requires.set_in c.loop-crowd.invariant
    c.in_ok-meet_linked_crowd.ensures.ok

pub returns-clause-ok : goal.returns-clause-ok
returns-clause-ok c = all_end (set_of c.args.terms.now (tree c.args.terms.now c.args.set)) c.args.crowds.now _ _ _ _ c.loop-crowd.crowd-index c.loop-crowd.invariant (omega (arith, c.loop-crowd-test.false))
