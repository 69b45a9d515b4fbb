use Rattle.std.proofs.Common.{length}
use denote.Text.{Utf8}
use denote.Shadow.{shadow}
use Rattle.std.specs.Str.{chars}
use Rattle.sc_pattern.specs.Runs.{IsAfter}
use Rattle.sc_pattern.proofs.matching.after_run.Given as goal

abbrev pub invariant-loop-wanted : goal.invariant-loop-wanted
invariant-loop-wanted l = shadow (Utf8 l.rest) × IsAfter l.fn.pattern (chars l.fn.text) l.parts (chars l.rest)

abbrev pub decreases-loop-wanted : goal.decreases-loop-wanted
decreases-loop-wanted l = length l.parts
