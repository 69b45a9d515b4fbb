use Rattle.std.proofs.Common.{◌-◌, ◌^◌}
use Rattle.sc_languages.specs.Searching.{IsSearch}
use Rattle.sc_languages.proofs.search.search.Given as goal

abbrev pub invariant-loop-others : goal.invariant-loop-others
invariant-loop-others l = IsSearch l.items l.symbols l.words l.visited l.done

abbrev pub decreases-loop-others : goal.decreases-loop-others
decreases-loop-others l = 2 ^ 64 - l.done
