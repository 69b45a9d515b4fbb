use Rattle.std.proofs.Common.{◌≡◌, ◌++◌, length, map}
use Rattle.sc_clauses.specs.declared.step.Word.TheVariants.{Number}
use Rattle.sc_rule_instances.proofs.writing.put_numbers.Given as goal

abbrev pub invariant-loop-n : goal.invariant-loop-n
invariant-loop-n l = l.words ++ map Number l.rest ≡ l.initial.words ++ map Number l.fn.numbers

abbrev pub decreases-loop-n : goal.decreases-loop-n
decreases-loop-n l = length l.rest
