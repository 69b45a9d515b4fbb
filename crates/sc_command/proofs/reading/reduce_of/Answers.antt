use Rattle.sc_command.proofs.reading.reduce_of.Goals as goal

pub returns-in_default-units_of-clause-none : goal.returns-in_default-units_of-clause-none
returns-in_default-units_of-clause-none c = λ r h. c.in_default-units_of.ensures.none r.budget h.budget_given
