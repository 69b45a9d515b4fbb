use Rattle.std.proofs.Common.{length}
use Rattle.sc_terms.proofs.terms.Terms.+all_joined.Given as goal

abbrev pub decreases-all_joined : goal.decreases-all_joined
decreases-all_joined l = length l.xs.now
