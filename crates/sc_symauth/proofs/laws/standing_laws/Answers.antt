use Rattle.sc_symauth.proofs.StandingsLaws.{satisfied_is, error_is, allow_is, any_error_is}
use Rattle.sc_symauth.proofs.laws.standing_laws.Goals as goal

pub returns : goal.returns
returns c = record {
  satisfied = satisfied_is c.value_laws.ensures.both;
  error = error_is c.value_laws.ensures.negation;
  allow = allow_is c.value_laws.ensures.negation c.value_laws.ensures.both c.value_laws.ensures.either c.truth_laws.ensures.any;
  any_error = any_error_is c.value_laws.ensures.negation c.value_laws.ensures.both c.value_laws.ensures.either c.truth_laws.ensures.any;
}
