use Rattle.sc_term_laws.proofs.FitLaws.{type_fits, field_is_of, field_may_lack, set_all, pick_is}
use Rattle.sc_term_laws.proofs.law.fit_laws.Goals as goal

pub returns : goal.returns
returns c = record { types = type_fits; fields = field_is_of; lacks = field_may_lack; members = set_all; found = pick_is }
