use Rattle.std.proofs.Common.{◌≡◌, take}
use Rattle.std.specs.List.{flat_map}
use Rattle.sc_schema_names.specs.Names.{common_types_of}
use Rattle.sc_schema_names.proofs.declaring.common_types.Given as goal

abbrev pub invariant-loop-namespace : goal.invariant-loop-namespace
invariant-loop-namespace l = l.names ≡ flat_map common_types_of (take l.namespace-index l.written.namespaces)
