use Rattle.sc_soundness_laws.proofs.constructs.operator_laws.Goals as goal
use Rattle.sc_soundness_laws.proofs.ConstructLaws.{applied_sound, operated_sound}

pub returns-clause-one : goal.returns-clause-one
returns-clause-one c = applied_sound

pub returns-clause-two : goal.returns-clause-two
returns-clause-two c = operated_sound
