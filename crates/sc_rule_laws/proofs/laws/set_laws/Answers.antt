use Rattle.sc_rule_laws.proofs.SetSound.{se1_holds, se3_holds, se4_holds, se5_holds, se6_holds, se7_holds}
use Rattle.sc_rule_laws.proofs.WrittenSound.{se9_holds, se10_holds}
use Rattle.sc_rule_laws.proofs.TermsHold.{se2_true, se8_true}
use Rattle.sc_rule_laws.proofs.laws.set_laws.Goals as goal

pub returns : goal.returns
returns c =
    record { moved = se1_holds; among = se2_true; standing = se3_holds; subsets = se4_holds; missing = se5_holds; shared = se6_holds; common = se7_holds; sets = se8_true; each = se9_holds; some = se10_holds }
