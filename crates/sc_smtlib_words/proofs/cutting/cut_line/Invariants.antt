use Rattle.std.proofs.Common.{◌≡◌, take, true}
use Rattle.sc_smtlib_words.specs.Cut.{lacks}
use Rattle.sc_smtlib_words.proofs.cutting.cut_line.Given as goal

abbrev pub invariant-loop-i : goal.invariant-loop-i
invariant-loop-i l = lacks 10 (take l.i l.bytes) ≡ true
