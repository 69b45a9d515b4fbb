use Rattle.std.proofs.Common.{◌≡◌, take}
use Rattle.sc_schema_json.specs.Schemas.{type_links}
use Rattle.sc_schema_json.proofs.types.links_of.Given as goal

abbrev pub invariant-loop-entity_type : goal.invariant-loop-entity_type
invariant-loop-entity_type l = l.links ≡ type_links (take l.entity_type-index l.declared)
