use Rattle.sc_command.proofs.reading.analyse_of.Goals as goal

pub returns-in_default-clause-none : goal.returns-in_default-clause-none
returns-in_default-clause-none c = λ a h. c.in_default.ensures.none a.asked h.asked_given

pub returns-in_default-units_of-clause-none : goal.returns-in_default-units_of-clause-none
returns-in_default-units_of-clause-none c = λ a h. c.in_default-units_of.ensures.none a.budget h.budget_given
