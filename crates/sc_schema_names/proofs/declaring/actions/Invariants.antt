use Rattle.std.proofs.Common.{◌≡◌, take}
use Rattle.std.specs.List.{flat_map}
use Rattle.sc_schema_names.specs.Names.{actions_of}
use Rattle.sc_schema_names.proofs.declaring.actions.Given as goal

abbrev pub invariant-loop-namespace : goal.invariant-loop-namespace
invariant-loop-namespace l = l.uids ≡ flat_map actions_of (take l.namespace-index l.written.namespaces)
