use Rattle.std.proofs.Common.{◌^◌, ◌+◌, ◌-◌, ◌*◌, length}
use Rattle.sc_schema_types.specs.Tables.{body_in}
use Rattle.sc_schema_types.proofs.SearchesLaws.{IsPlacing}
use Rattle.sc_schema_types.proofs.search.place.Given as goal

abbrev pub invariant-loop-step : goal.invariant-loop-step
invariant-loop-step l = IsPlacing (body_in l.bodies.entries) l.fn.search.order.items l.start l.search

abbrev pub decreases-loop-step : goal.decreases-loop-step
decreases-loop-step l = 3 * 2 ^ 64 - (2 * length l.search.order.items + length l.search.path.items)
