use Rattle.std.proofs.Common.{◌≡◌, ℕ, List, drop}
use Rattle.sc_schema_syntax.specs.declared.attribute.WrittenPresence.{WrittenPresence}
use Rattle.sc_schema_syntax.specs.declared.written_type.WrittenType.{WrittenType}
use Rattle.sc_schema_names.specs.Tables.{known}
use Rattle.sc_schema_names.specs.Unknown.{first_member, type_fault}
use Rattle.sc_schema_names.proofs.unknown_types.+unknown.Given as goal

abbrev pub invariant-attributes_fault-loop-attribute : goal.invariant-attributes_fault-loop-attribute
invariant-attributes_fault-loop-attribute l =
    first_member (λ (a : List ℕ × WrittenPresence × WrittenType). a.0) (λ a. type_fault (known l.declared) l.namespace a.2) (drop l.attribute-index l.attributes)
    ≡ first_member (λ (a : List ℕ × WrittenPresence × WrittenType). a.0) (λ a. type_fault (known l.declared) l.namespace a.2) l.attributes
