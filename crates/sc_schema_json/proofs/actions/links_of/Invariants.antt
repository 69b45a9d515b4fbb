use Rattle.std.proofs.Common.{◌≡◌, take}
use Rattle.sc_schema_json.specs.Schemas.{action_links}
use Rattle.sc_schema_json.proofs.actions.links_of.Given as goal

abbrev pub invariant-loop-action : goal.invariant-loop-action
invariant-loop-action l = l.links ≡ action_links (take l.action-index l.declared)
