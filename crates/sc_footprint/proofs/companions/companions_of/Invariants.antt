use Rattle.sc_footprint.specs.Companions.{IsListing}
use Rattle.sc_footprint.proofs.companions.companions_of.Given as goal

abbrev pub invariant-loop-term : goal.invariant-loop-term
invariant-loop-term l = IsListing l.schema l.fn.terms l.terms l.closed.keys l.term-iterator l.spans.items l.numbers.items
