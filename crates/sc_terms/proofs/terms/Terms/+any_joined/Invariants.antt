use Rattle.std.proofs.Common.{length}
use Rattle.sc_terms.proofs.terms.Terms.+any_joined.Given as goal

abbrev pub decreases-any_joined : goal.decreases-any_joined
decreases-any_joined l = length l.xs.now
