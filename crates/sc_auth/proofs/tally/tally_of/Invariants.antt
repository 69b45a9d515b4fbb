use Rattle.std.proofs.Common.{◌≡◌, map, take}
use Rattle.sc_auth.specs.Decisions.{places, is_permitting, is_forbidding, errs}
use Rattle.sc_auth.specs.Standings.{standing_of}
use Rattle.sc_auth.proofs.tally.tally_of.Given as goal

abbrev pub invariant-loop-policy : goal.invariant-loop-policy
invariant-loop-policy l = record {
  permits : l.tally.permits ≡ places (is_permitting l.world) (take l.policy-index l.policies);
  forbids : l.tally.forbids ≡ places (is_forbidding l.world) (take l.policy-index l.policies);
  erring : l.tally.erring ≡ places (errs l.world) (take l.policy-index l.policies);
  standings : l.tally.standings ≡ map (standing_of l.world) (take l.policy-index l.policies);
}
