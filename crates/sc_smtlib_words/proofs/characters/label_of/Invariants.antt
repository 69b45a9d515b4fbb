use Rattle.std.proofs.Common.{◌≡◌, ◌++◌, drop}
use Rattle.sc_smtlib_words.specs.Characters.{plain, label_from}
use Rattle.sc_smtlib_words.proofs.characters.label_of.Given as goal

abbrev pub invariant-loop-b : goal.invariant-loop-b
invariant-loop-b l = l.out.items ++ label_from l.place (drop l.b-index l.bytes) ≡ label_from plain l.bytes
