use Rattle.sc_command.proofs.reading.generate_of.Goals as goal

pub returns-in_default-clause-none : goal.returns-in_default-clause-none
returns-in_default-clause-none c = λ m h. c.in_default.ensures.none m.size h.size_given
