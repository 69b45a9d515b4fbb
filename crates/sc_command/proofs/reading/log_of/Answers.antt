use Rattle.sc_command.proofs.reading.log_of.Goals as goal

pub returns-in_default-clause-none : goal.returns-in_default-clause-none
returns-in_default-clause-none c = λ l h. c.in_default.ensures.none l.asked h.asked_given

pub returns-in_default-units_of-clause-none : goal.returns-in_default-units_of-clause-none
returns-in_default-units_of-clause-none c = λ l h. c.in_default-units_of.ensures.none l.budget h.budget_given

pub returns-in_default-environment_of-clause-none : goal.returns-in_default-environment_of-clause-none
returns-in_default-environment_of-clause-none c = λ l h. c.in_default-environment_of.ensures.none l.environment h.place_given
