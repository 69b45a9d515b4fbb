use Rattle.std.proofs.Common.{◌≡◌, take}
use Rattle.std.specs.List.{flat_map}
use Rattle.sc_schema_names.specs.Names.{entity_types_of}
use Rattle.sc_schema_names.proofs.declaring.entity_types.Given as goal

abbrev pub invariant-loop-namespace : goal.invariant-loop-namespace
invariant-loop-namespace l = l.names ≡ flat_map entity_types_of (take l.namespace-index l.written.namespaces)
