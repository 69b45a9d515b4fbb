use Rattle.std.proofs.Common.{◌≡◌, length}
use Rattle.sc_model_worlds.specs.Listed.{AreListed}
use Rattle.sc_model_worlds.specs.Saying.{first_saying}
use Rattle.sc_model_worlds.proofs.saying.first.Given as goal

abbrev pub invariant-loop-term : goal.invariant-loop-term
invariant-loop-term l = record {
  listed : AreListed l.problem l.rest;
  left : first_saying l.problem l.names l.sought l.terms ≡ first_saying l.problem l.names l.sought l.rest;
}

abbrev pub decreases-loop-term : goal.decreases-loop-term
decreases-loop-term l = length l.rest
