use Rattle.std.proofs.Common.{refl}
use Rattle.sc_schema_types.proofs.BodiesLaws.{put_new, put_there}
use Rattle.sc_schema_types.proofs.bodies.put.Goals as goal

pub returns-then-contains_key : goal.returns-then-contains_key
returns-then-contains_key c = put_there c.args.bodies.now.entries c.args.declared.now c.if-contains_key.ensures

pub returns : goal.returns
returns c =
    put_new c.args.bodies.now.entries c.insert.new.self.entries c.args.declared.now c.in_ok-try_clone.field-0 _ c.in_ok-try_clone.ensures refl
    c.if-contains_key.ensures c.in_ok-insert.ensures.updates.0
