use Rattle.th_strings.specs.Texts.{AreTextsUpTo}
use Rattle.th_strings.proofs.texts.text_numbers.Given as goal

abbrev pub invariant-loop-place : goal.invariant-loop-place
invariant-loop-place l = AreTextsUpTo l.problem l.place l.numbers.items
