use Rattle.sc_inputs.proofs.serving.work_of.Goals as goal

pub returns-in_default-clause-none : goal.returns-in_default-clause-none
returns-in_default-clause-none c = λ d h. (rw c.in_default.is at c.in_ok-command.ensures.none) d h
