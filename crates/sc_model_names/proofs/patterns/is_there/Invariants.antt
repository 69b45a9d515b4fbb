use Rattle.std.proofs.Common.{◌≡◌, length}
use Rattle.std.specs.List.{list_any}
use Rattle.sc_model_names.specs.Patterns.{same_pattern}
use Rattle.sc_model_names.proofs.patterns.is_there.Given as goal

abbrev pub invariant-loop-other : goal.invariant-loop-other
invariant-loop-other l = list_any (same_pattern l.pattern) l.rest ≡ list_any (same_pattern l.pattern) l.fn.patterns

abbrev pub decreases-loop-other : goal.decreases-loop-other
decreases-loop-other l = length l.rest
