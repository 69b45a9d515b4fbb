use Rattle.sc_soundness_laws.proofs.constructs.logic_laws.Goals as goal
use Rattle.sc_soundness_laws.proofs.LogicLaws.{choice_sound, either_sound, both_sound}

pub returns-clause-choice : goal.returns-clause-choice
returns-clause-choice c = choice_sound

pub returns-clause-either : goal.returns-clause-either
returns-clause-either c = either_sound

pub returns-clause-both : goal.returns-clause-both
returns-clause-both c = both_sound
