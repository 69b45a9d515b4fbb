use Rattle.std.proofs.Common.{◌≡◌, ◌+◌, length, take}
use Rattle.std.specs.List.{flat_map}
use Rattle.sc_schema.specs.Declarations.{environments_for}
use Rattle.sc_schema_json.proofs.counting.has_more_environments.Given as goal

abbrev pub invariant-loop-action : goal.invariant-loop-action
invariant-loop-action l = l.left + length (flat_map environments_for (take l.action-index l.actions)) ≡ l.fn.most
