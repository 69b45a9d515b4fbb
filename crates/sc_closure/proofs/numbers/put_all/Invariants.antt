use Rattle.std.proofs.Common.{◌≡◌, length}
use Rattle.sc_closure.specs.Following.{put_new}
use Rattle.sc_closure.proofs.numbers.put_all.Given as goal

abbrev pub invariant-loop-first : goal.invariant-loop-first
invariant-loop-first l = put_new l.numbers.keys l.rest ≡ put_new l.initial.numbers.keys l.more

abbrev pub decreases-loop-first : goal.decreases-loop-first
decreases-loop-first l = length l.rest
