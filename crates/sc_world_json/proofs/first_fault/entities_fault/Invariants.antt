use Rattle.std.proofs.Common.{◌≡◌, [], drop}
use Rattle.serde_json.specs.View.{items_view}
use Rattle.sc_world_json.specs.Faults.{entities_fault}
use Rattle.sc_world_json.proofs.first_fault.entities_fault.Given as goal

abbrev pub invariant-loop-number : goal.invariant-loop-number
invariant-loop-number l =
    entities_fault [] 0 (items_view l.items.items) ≡ entities_fault l.before.keys l.number-counter (items_view (drop l.number-counter l.items.items))
