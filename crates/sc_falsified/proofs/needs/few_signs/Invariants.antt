use Rattle.sc_falsified.specs.Crowds.{IsPart}
use Rattle.sc_falsified.proofs.needs.few_signs.Given as goal

abbrev pub invariant-loop-pattern : goal.invariant-loop-pattern
invariant-loop-pattern g l = IsPart l.signs l.asked.items
