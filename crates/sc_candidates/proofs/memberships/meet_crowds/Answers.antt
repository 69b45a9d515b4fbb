use Rattle.std.proofs.Common.{arith}
use Rattle.sc_terms.specs.Tables.{tree}
use Rattle.sc_closure_rules.proofs.MakingLaws.{puts_nothing}
use Rattle.sc_candidates.specs.Crowds.{IsCrowd, crowd_told}
use Rattle.sc_candidates.proofs.CrowdLoopLaws.{crowds_next}
use Rattle.sc_candidates.proofs.EquationLaws.{equates_all, equates_whole}
use Rattle.sc_candidates.proofs.DividedLaws.{item_at, crowd_later}
use Rattle.sc_candidates.proofs.memberships.meet_crowds.Goals as goal

pub loop-crowd-init : goal.loop-crowd-init
loop-crowd-init c = equates_all _ _ _ _ _ _ (puts_nothing _ _)

pub meet_crowd-requires-clause-crowd_in : goal.meet_crowd-requires-clause-crowd_in
meet_crowd-requires-clause-crowd_in c =
    crowd_later c.args.terms.now c.loop-crowd.terms c.loop-crowd.invariant.puts.kept c.crowd-item.result
    (item_at (IsCrowd c.args.terms.now) c.args.crowds.now c.requires.crowds_in c.loop-crowd.crowd-index c.crowd-item.result c.loop-crowd-test.true c.crowd-item.is)

pub loop-crowd-preserved : goal.loop-crowd-preserved
loop-crowd-preserved c =
    crowds_next c.args.crowds.now _ _ _ _ _ _ c.loop-crowd.crowd-index c.crowd-item.result c.loop-crowd-test.true c.crowd-item.is c.args.term c.args.set c.requires.crowds_in c.requires.term_in c.requires.set_in
    c.loop-crowd.invariant c.in_ok-meet_crowd.ensures.ok

pub returns-clause-ok : goal.returns-clause-ok
returns-clause-ok c =
    equates_whole (crowd_told c.args.terms.now (tree c.args.terms.now c.args.term) (tree c.args.terms.now c.args.set)) c.args.crowds.now _ _ _ _ c.loop-crowd.crowd-index _ c.loop-crowd.invariant
    (omega (arith, c.loop-crowd-test.false))
