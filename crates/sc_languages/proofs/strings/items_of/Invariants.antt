use Rattle.std.proofs.Common.{◌≡◌, ◌++◌, drop}
use Rattle.sc_languages.specs.Items.{items_of}
use Rattle.sc_languages.proofs.strings.items_of.Given as goal

abbrev pub invariant-loop-pattern : goal.invariant-loop-pattern
invariant-loop-pattern l = l.items.items ++ items_of (drop l.pattern-index l.patterns) l.left ≡ items_of l.patterns l.fn.signs
