use Rattle.std.proofs.Common.{◌≡◌, ◌++◌, [], length}
use Rattle.sc_smtlib_terms.specs.Patterns.{pieces}
use Rattle.sc_smtlib_terms.proofs.patterns.pieces.Given as goal

abbrev pub invariant-loop-part : goal.invariant-loop-part
invariant-loop-part l = l.out ++ pieces l.run.items l.rest ≡ pieces [] l.fn.parts

abbrev pub decreases-loop-part : goal.decreases-loop-part
decreases-loop-part l = length l.rest
