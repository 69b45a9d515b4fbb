use Rattle.sc_footprint.proofs.CandidateLaws.{candidates_step, candidates_end}
use Rattle.sc_footprint.proofs.shelves.all_candidates.Goals as goal

pub loop-n-preserved : goal.loop-n-preserved
loop-n-preserved c =
    let so_far = rw c.in-Some.ensures.steps at c.loop-n.invariant.so_far in
    let within = rw c.in-Some.ensures.steps at c.loop-n.invariant.within in
    record {
      within = within.1;
      so_far = candidates_step _ c.laws.ensures _ _ _ _ _ _ so_far c.node.ensures.stands c.node.ensures.parts_in within.0 c.in_ok-put_candidates.ensures;
    }

pub returns : goal.returns
returns c = candidates_end _ _ _ _ c.in-None.ensures.steps.0 c.loop-n.invariant.so_far
