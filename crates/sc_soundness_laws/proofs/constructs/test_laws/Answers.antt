use Rattle.sc_soundness_laws.proofs.constructs.test_laws.Goals as goal
use Rattle.sc_soundness_laws.proofs.ConstructLaws.{matching_sound, tested_sound, tested_in_sound}

pub returns-clause-like : goal.returns-clause-like
returns-clause-like c = matching_sound

pub returns-clause-of_type : goal.returns-clause-of_type
returns-clause-of_type c = tested_sound

pub returns-clause-of_type_in : goal.returns-clause-of_type_in
returns-clause-of_type_in c = tested_in_sound
