use Rattle.std.proofs.Common.{◌≡◌, drop}
use Rattle.std.specs.List.{fold}
use Rattle.sc_schema_types.specs.Expansions.{expanded}
use Rattle.sc_schema_types.specs.Tables.{body_in, with_body, type_in, meaning_by}
use Rattle.sc_schema_types.proofs.expansion.meaning_of.Given as goal

abbrev pub invariant-loop-name : goal.invariant-loop-name
invariant-loop-name l =
    fold (with_body (body_in l.bodies.entries) (expanded l.kinds)) (type_in l.table.entries) (drop l.name-index l.order) ≡ meaning_by l.kinds (body_in l.bodies.entries) l.order
