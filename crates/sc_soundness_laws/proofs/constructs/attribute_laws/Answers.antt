use Rattle.sc_soundness_laws.proofs.constructs.attribute_laws.Goals as goal
use Rattle.sc_soundness_laws.proofs.ConstructLaws.{having_sound, accessed_sound}

pub returns-clause-has : goal.returns-clause-has
returns-clause-has c = having_sound

pub returns-clause-read : goal.returns-clause-read
returns-clause-read c = accessed_sound
