use Rattle.sc_footprint.proofs.CandidateLaws.{is_placed}
use Rattle.sc_footprint.proofs.ShelvingLaws.{shelving_step, shelving_end}
use Rattle.sc_footprint.proofs.shelves.shelves_of.Goals as goal

pub put_on-requires-clause-within : goal.put_on-requires-clause-within
put_on-requires-clause-within c = c.loop-n.invariant.so_far.within

pub put_candidate-requires-clause-within : goal.put_candidate-requires-clause-within
put_candidate-requires-clause-within c = c.in_ok-put_on.ensures.within

pub put_owned-requires-clause-within : goal.put_owned-requires-clause-within
put_owned-requires-clause-within c = c.in_ok-put_candidate.ensures.within

pub loop-n-preserved : goal.loop-n-preserved
loop-n-preserved c =
    let so_far = rw c.in-Some.ensures.steps at c.loop-n.invariant.so_far in
    let within = rw c.in-Some.ensures.steps at c.loop-n.invariant.within in
    record {
      within = within.1;
      so_far = shelving_step _ _ _ _ (is_placed _ c.laws.ensures _ _ _ within.0 c.in_ok-candidates.ensures) _ _ _ _ _ so_far c.in_ok-put_on.ensures c.in_ok-put_candidate.ensures c.in_ok-put_owned.ensures;
    }

pub returns : goal.returns
returns c = shelving_end _ _ _ _ c.in-None.ensures.steps.0 c.loop-n.invariant.so_far
