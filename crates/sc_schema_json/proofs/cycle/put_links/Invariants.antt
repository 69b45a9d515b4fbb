use Rattle.std.proofs.Common.{◌≡◌, ◌++◌, take}
use Rattle.sc_schema_json.specs.Schemas.{resolved_links}
use Rattle.sc_schema_json.proofs.cycle.put_links.Given as goal

abbrev pub invariant-loop-action : goal.invariant-loop-action
invariant-loop-action l = l.links ≡ l.fn.links ++ resolved_links (take l.action-index l.actions)
