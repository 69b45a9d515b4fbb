use Rattle.sc_rule_laws.proofs.EqualSound.{eq1_holds, eq2_holds, eq5_holds, eq6_holds, eq8_holds}
use Rattle.sc_rule_laws.proofs.TermsHold.{eq3_true, eq4_true, eq7_true}
use Rattle.sc_rule_laws.proofs.laws.equal_laws.Goals as goal

pub returns : goal.returns
returns c =
    record { transitive = eq1_holds; chosen = eq2_holds; fields = eq3_true; records = eq4_true; presence = eq5_holds; held = eq6_holds; options = eq7_true; absent = eq8_holds }
