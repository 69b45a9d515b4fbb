use Rattle.std.proofs.Common.{◌≡◌, drop}
use Rattle.sc_languages.specs.Searching.{is_on}
use Rattle.sc_languages.proofs.others.is_on.Given as goal

abbrev pub invariant-loop-w : goal.invariant-loop-w
invariant-loop-w l = is_on (drop l.w-index l.words) l.word ≡ is_on l.words l.word
