use Rattle.std.proofs.Common.{◌≡◌, drop}
use Rattle.sc_schema_names.specs.Tables.{known}
use Rattle.sc_schema_names.specs.Unknown.{first_item}
use Rattle.sc_schema_names.proofs.items.first_item.Given as goal

abbrev pub invariant-loop-number : goal.invariant-loop-number
invariant-loop-number g l =
    first_item (g.T.Item.fault_of (known l.declared) l.namespace) l.number (drop l.number l.items)
    ≡ first_item (g.T.Item.fault_of (known l.declared) l.namespace) 0 l.items
