use Rattle.std.proofs.Common.{◌-◌, ◌≤◌, length}
use Rattle.sc_languages.specs.Searching.{AreSoFar}
use Rattle.sc_languages.proofs.strings.words_of.Given as goal

abbrev pub invariant-more : goal.invariant-more
invariant-more l = record {
  so_far : AreSoFar l.patterns l.signs l.words.items;
  at_most : length l.words.items ≤ l.wanted;
}

abbrev pub decreases-more : goal.decreases-more
decreases-more l = l.wanted - length l.words.items
