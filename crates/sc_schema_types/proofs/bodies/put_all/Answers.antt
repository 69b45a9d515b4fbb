use Rattle.sc_schema_types.specs.References.{body_among}
use Rattle.sc_schema_types.specs.Tables.{body_in}
use Rattle.sc_schema_types.proofs.BodiesLaws.{more_types, or_none}
use Rattle.sc_schema_types.proofs.bodies.put_all.Goals as goal

pub loop-declared-init : goal.loop-declared-init
unfolding body_among
loop-declared-init c = λ q. or_none (body_in c.args.bodies.now.entries q)

pub loop-declared-preserved : goal.loop-declared-preserved
loop-declared-preserved c =
    λ q. more_types c.args.types.now c.loop-declared.declared-index c.declared-item.result q _ _ _ c.loop-declared-test.true c.declared-item.is
    (c.loop-declared.invariant q) (c.in_ok-put.ensures q)
