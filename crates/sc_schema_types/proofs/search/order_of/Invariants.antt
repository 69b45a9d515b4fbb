use Rattle.sc_schema_types.specs.Tables.{body_in}
use Rattle.sc_schema_types.proofs.SearchesLaws.{ArePlaced}
use Rattle.sc_schema_types.proofs.search.order_of.Given as goal

abbrev pub invariant-loop-name : goal.invariant-loop-name
invariant-loop-name l = ArePlaced (body_in l.bodies.entries) l.search l.names l.name-index
