use Rattle.sc_command.proofs.reading.check_of.Goals as goal

pub returns-in_default-clause-none : goal.returns-in_default-clause-none
returns-in_default-clause-none c = λ k h. c.in_default.ensures.none k.asked h.asked_given

pub returns-in_default-environment_of-clause-none : goal.returns-in_default-environment_of-clause-none
returns-in_default-environment_of-clause-none c = λ k h. c.in_default-environment_of.ensures.none k.environment h.place_given
