use Rattle.std.proofs.Common.{◌≡◌, map, take}
use Rattle.serde_json.specs.View.{view}
use Rattle.sc_world_json.specs.Text.{uid_data}
use Rattle.sc_world_json.proofs.names.uid_values.Given as goal

abbrev pub invariant-loop-uid : goal.invariant-loop-uid
invariant-loop-uid l = map view l.values.items ≡ map uid_data (take l.uid-index l.uids)
