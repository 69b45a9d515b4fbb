use Rattle.std.proofs.Common.{take}
use Rattle.sc_schema.specs.Indices.{IsAbove}
use Rattle.sc_schema.proofs.index.types_above.Given as goal

abbrev pub invariant-loop-action : goal.invariant-loop-action
invariant-loop-action l = IsAbove (take l.action-index l.actions) l.above.entries
