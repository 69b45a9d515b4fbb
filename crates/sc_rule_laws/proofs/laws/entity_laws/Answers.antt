use Rattle.sc_rule_laws.proofs.EntitySound.{en1_holds, en2_holds, en3_holds}
use Rattle.sc_rule_laws.proofs.TermsHold.{en4_true, en5_true, en6_true, en7_true, en8_true, eq9_true}
use Rattle.sc_rule_laws.proofs.laws.entity_laws.Goals as goal

pub returns : goal.returns
returns c =
    record { attributes = en1_holds; sets = en2_holds; tags = en3_holds; acyclic = en4_true; transitive = en5_true; absent = en6_true; declared = en7_true; acting = en8_true; enumerated = eq9_true }
