use Rattle.std.proofs.Common.{◌≡◌, ◌++◌}
use Rattle.std.specs.List.{filter}
use Rattle.std.specs.Vec.Iter.{into_iter_items}
use Rattle.sc_typed.specs.Capabilities.{is_known}
use Rattle.sc_typed.proofs.capability.common.Given as goal

abbrev pub invariant-loop-capability : goal.invariant-loop-capability
invariant-loop-capability l = l.kept ++ filter (is_known l.second) (into_iter_items l.capability-iterator) ≡ filter (is_known l.second) l.fn.first
