use Rattle.sc_rule_laws.proofs.StringSound.{st1_holds}
use Rattle.sc_rule_laws.proofs.TermsHold.{st2_true, st3_true}
use Rattle.sc_rule_laws.proofs.laws.string_laws.Goals as goal

pub returns : goal.returns
returns c = record { moved = st1_holds; counted = st2_true; crowded = st3_true }
