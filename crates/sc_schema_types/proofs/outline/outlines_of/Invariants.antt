use Rattle.std.proofs.Common.{◌≡◌, drop}
use Rattle.std.specs.List.{fold}
use Rattle.sc_schema_types.specs.Tables.{body_in, with_body, outlined, outline_in, outlines_by}
use Rattle.sc_schema_types.proofs.outline.outlines_of.Given as goal

abbrev pub invariant-loop-name : goal.invariant-loop-name
invariant-loop-name l =
    fold (with_body (body_in l.bodies.entries) outlined) (outline_in l.table.entries) (drop l.name-index l.order) ≡ outlines_by (body_in l.bodies.entries) l.order
