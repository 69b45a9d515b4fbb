use Rattle.std.proofs.Common.{◌≡◌, length}
use Rattle.sc_term_laws.specs.Judged.{all_good}
use Rattle.sc_term_laws.proofs.judging.all_good.Given as goal

abbrev pub invariant-loop-part : goal.invariant-loop-part
invariant-loop-part l = all_good l.good l.parts ≡ all_good l.good l.rest

abbrev pub decreases-loop-part : goal.decreases-loop-part
decreases-loop-part l = length l.rest
