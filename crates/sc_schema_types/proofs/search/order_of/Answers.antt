use Rattle.std.proofs.lemmas.Option.{MatchOption-at_none}
use Rattle.sc_schema_types.specs.declared.search.Search.{Search}
use Rattle.sc_schema_types.specs.Tables.{body_in}
use Rattle.sc_schema_types.proofs.SearchesLaws.{placed_first, placed_next, placed_last}
use Rattle.sc_schema_types.proofs.search.order_of.Goals as goal

pub loop-name-init : goal.loop-name-init
loop-name-init c =
    let first : Search = record { order = c.new.result; path = c.new-2.result; marks = c.new-3.result } in
    placed_first (body_in c.args.bodies.now.entries) first c.args.names.now c.new.ensures.items c.new-2.ensures.items c.new-3.ensures.empty

pub loop-name-preserved : goal.loop-name-preserved
loop-name-preserved c =
    placed_next (body_in c.args.bodies.now.entries) c.loop-name.search c.place.new.search c.args.names.now c.loop-name.name-index c.name-item.result c.loop-name.invariant c.loop-name-test.true c.name-item.is
    (MatchOption-at_none _ _ c.in_default.is c.in_ok-cycle.ensures)

pub returns : goal.returns
returns c =
    placed_last (body_in c.args.bodies.now.entries) c.loop-name.search c.args.names.now c.from_vec.result c.loop-name.name-index c.loop-name.invariant c.loop-name-test.false c.from_vec.ensures
