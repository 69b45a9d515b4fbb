use Rattle.std.proofs.Common.{◌≡◌, take, true}
use Rattle.sc_logs.specs.Texts.{lacks}
use Rattle.sc_logs.proofs.cutting.cut_at.Given as goal

abbrev pub invariant-loop-i : goal.invariant-loop-i
invariant-loop-i l = lacks l.end (take l.i l.bytes) ≡ true
