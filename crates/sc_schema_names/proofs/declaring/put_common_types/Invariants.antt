use Rattle.std.proofs.Common.{◌≡◌, ◌++◌, map, take}
use Rattle.sc_schema_syntax.specs.declared.written_common_type.WrittenCommonType.{WrittenCommonType}
use Rattle.sc_schema_names.specs.Names.{full}
use Rattle.sc_schema_names.proofs.declaring.put_common_types.Given as goal

abbrev pub invariant-loop-common_type : goal.invariant-loop-common_type
invariant-loop-common_type l = l.names ≡ l.initial.names ++ map (λ (t : WrittenCommonType). full l.namespace.name t.name) (take l.common_type-index l.common_type-items)
