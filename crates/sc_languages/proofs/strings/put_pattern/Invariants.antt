use Rattle.std.proofs.Common.{◌≡◌, ◌++◌, [], drop}
use Rattle.sc_languages.specs.Items.{with_pattern}
use Rattle.sc_languages.proofs.strings.put_pattern.Given as goal

abbrev pub invariant-loop-part : goal.invariant-loop-part
invariant-loop-part l = l.items.items ++ with_pattern (drop l.part-index l.fn.pattern) l.sign [] ≡ l.fn.items.items ++ with_pattern l.fn.pattern l.sign []
