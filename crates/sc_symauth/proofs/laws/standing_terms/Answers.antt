use Rattle.sc_symauth.proofs.TermsLaws.{allow_is_term, any_error_is_term}
use Rattle.sc_symauth.proofs.laws.standing_terms.Goals as goal

pub returns : goal.returns
returns c = record {
  allow = allow_is_term c.made_laws.ensures.negation c.made_laws.ensures.both c.made_laws.ensures.any;
  any_error = any_error_is_term c.made_laws.ensures.negation c.made_laws.ensures.both c.made_laws.ensures.any;
}
