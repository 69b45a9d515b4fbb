use Rattle.std.proofs.Common.{[], unwrap_or, sym, ap, subst}
use Rattle.std.specs.Option.{option_copied}
use Rattle.sc_eval.specs.Written.{HaveProperConstants}
use Rattle.sc_goal.proofs.asking.second_constants.Goals as goal

pub returns-in-Some : goal.returns-in-Some
returns-in-Some c = subst HaveProperConstants (sym (ap (λ o. unwrap_or (option_copied o) []) c.in-Some.is)) c.constant_laws.ensures

pub returns-in-None : goal.returns-in-None
returns-in-None c = subst HaveProperConstants (sym (ap (λ o. unwrap_or (option_copied o) []) c.in-None.is)) tt
