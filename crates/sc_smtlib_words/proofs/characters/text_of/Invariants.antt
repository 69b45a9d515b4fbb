use Rattle.std.proofs.Common.{◌≡◌, ◌++◌, drop}
use Rattle.sc_smtlib_words.specs.Characters.{plain, text_from}
use Rattle.sc_smtlib_words.proofs.characters.text_of.Given as goal

abbrev pub invariant-loop-b : goal.invariant-loop-b
invariant-loop-b l = l.out.items ++ text_from l.place (drop l.b-index l.bytes) ≡ text_from plain l.bytes
