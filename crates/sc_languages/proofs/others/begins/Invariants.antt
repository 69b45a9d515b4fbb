use Rattle.std.proofs.Common.{◌≡◌, drop}
use Rattle.sc_languages.specs.Searching.{begins}
use Rattle.sc_languages.proofs.others.begins.Given as goal

abbrev pub invariant-loop-c : goal.invariant-loop-c
invariant-loop-c l = begins (drop l.c-index l.word) l.left ≡ begins l.word l.fn.whole
