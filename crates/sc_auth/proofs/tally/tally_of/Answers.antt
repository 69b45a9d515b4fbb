use Rattle.sc_auth.proofs.PlacesLaws.{counted, permits_more, forbids_more, erring_more, standings_more}
use Rattle.sc_auth.proofs.tally.tally_of.Goals as goal

pub loop-policy-preserved : goal.loop-policy-preserved
loop-policy-preserved c =
    let w = c.args.world.now in
    let ps = c.args.policies.now in
    let i = c.loop-policy.policy-index in
    let p = c.policy-item.result in
    let s = c.in_ok-standing.standing in
    let old = c.loop-policy.tally in
    let new = c.count.new.self in
    let within = c.loop-policy-test.true in
    let placed = counted w ps i old.standings within c.loop-policy.invariant.standings in
    record {
      permits = permits_more w ps i p s old.permits new.permits _ within c.policy-item.is c.in_ok-standing.ensures placed c.loop-policy.invariant.permits c.in_ok-count.ensures.permits;
      forbids = forbids_more w ps i p s old.forbids new.forbids _ within c.policy-item.is c.in_ok-standing.ensures placed c.loop-policy.invariant.forbids c.in_ok-count.ensures.forbids;
      erring = erring_more w ps i p s old.erring new.erring _ within c.policy-item.is c.in_ok-standing.ensures placed c.loop-policy.invariant.erring c.in_ok-count.ensures.erring;
      standings = standings_more w ps i p s old.standings new.standings within c.policy-item.is c.in_ok-standing.ensures c.loop-policy.invariant.standings c.in_ok-count.ensures.standings;
    }
