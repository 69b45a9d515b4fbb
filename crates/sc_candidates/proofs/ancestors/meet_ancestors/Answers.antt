use Rattle.std.proofs.Common.{length, arith}
use Rattle.sc_terms.specs.Tables.{tree}
use Rattle.sc_closure_rules.proofs.MakingLaws.{puts_nothing}
use Rattle.sc_closure_rules.proofs.LoopLaws.{all_end}
use Rattle.sc_candidates.specs.Ancestors.{ups_of}
use Rattle.sc_candidates.specs.Crowds.{IsCrowdWithin}
use Rattle.sc_candidates.proofs.CrowdLoopLaws.{crowd_within_later, ups_next}
use Rattle.sc_candidates.proofs.DividedLaws.{item_at}
use Rattle.sc_candidates.proofs.ancestors.meet_ancestors.Goals as goal

pub loop-crowd-init : goal.loop-crowd-init
loop-crowd-init c = puts_nothing _ _

pub put_up-requires-clause-below_in : goal.put_up-requires-clause-below_in
put_up-requires-clause-below_in c =
    (crowd_within_later (length c.args.terms.now) (length c.loop-crowd.terms) c.crowd-item.result c.loop-crowd.invariant.kept.longer
    (item_at (IsCrowdWithin (length c.args.terms.now)) c.args.crowds.now c.requires.crowds_in c.loop-crowd.crowd-index c.crowd-item.result c.loop-crowd-test.true c.crowd-item.is)).0

pub put_up-requires-clause-members_in : goal.put_up-requires-clause-members_in
put_up-requires-clause-members_in c =
    rw c.as_slice.ensures
    ((crowd_within_later (length c.args.terms.now) (length c.loop-crowd.terms) c.crowd-item.result c.loop-crowd.invariant.kept.longer
    (item_at (IsCrowdWithin (length c.args.terms.now)) c.args.crowds.now c.requires.crowds_in c.loop-crowd.crowd-index c.crowd-item.result c.loop-crowd-test.true c.crowd-item.is)).1)

pub loop-crowd-preserved : goal.loop-crowd-preserved
loop-crowd-preserved c =
    ups_next c.args.crowds.now _ _ _ _ _ _ c.loop-crowd.crowd-index c.crowd-item.result c.loop-crowd-test.true c.crowd-item.is c.requires.crowds_in c.args.above c.requires.above_in c.loop-crowd.invariant
    (rw c.as_slice.ensures at c.in_ok-put_up.ensures.ok)

pub returns-clause-ok : goal.returns-clause-ok
returns-clause-ok c = all_end (ups_of c.args.terms.now (tree c.args.terms.now c.args.above)) c.args.crowds.now _ _ _ _ c.loop-crowd.crowd-index c.loop-crowd.invariant (omega (arith, c.loop-crowd-test.false))
