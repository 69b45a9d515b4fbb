use Rattle.std.proofs.Common.{◌≡◌, drop}
use Rattle.sc_languages.specs.Searching.{is_one}
use Rattle.sc_languages.proofs.others.is_one.Given as goal

abbrev pub invariant-loop-w : goal.invariant-loop-w
invariant-loop-w l = is_one (drop l.w-index l.words) l.word ≡ is_one l.words l.word
