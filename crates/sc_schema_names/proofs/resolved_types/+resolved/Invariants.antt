use Rattle.std.proofs.Common.{◌≡◌, map, take}
use Rattle.sc_schema_names.specs.Resolution.{resolved_attribute}
use Rattle.sc_schema_names.specs.Tables.{known}
use Rattle.sc_schema_names.proofs.resolved_types.+resolved.Given as goal

abbrev pub invariant-resolved_attributes-loop-attribute : goal.invariant-resolved_attributes-loop-attribute
invariant-resolved_attributes-loop-attribute l = l.all ≡ map (resolved_attribute (known l.declared) l.namespace) (take l.attribute-index l.attributes)
