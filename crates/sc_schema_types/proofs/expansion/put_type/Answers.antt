use Rattle.std.proofs.Common.{ap}
use Rattle.std.specs.Option.{option_copied}
use Rattle.sc_schema.specs.declared.ty.Ty.TheVariants.{Bool}
use Rattle.sc_schema_types.specs.Expansions.{expanded}
use Rattle.sc_schema_types.specs.Tables.{body_in}
use Rattle.sc_schema_types.proofs.TablesLaws.{put_is}
use Rattle.sc_schema_types.proofs.expansion.put_type.Goals as goal

pub returns : goal.returns
returns c =
    put_is (body_in c.args.bodies.now.entries) (expanded c.args.kinds.now) Bool c.args.table.now.entries c.insert.new.self.entries c.in_ok-key.key c.args.name.now
    c.in-Some.body.now.now c.in_ok-ty.ty (ap option_copied c.in-Some.ensures.value) c.in_ok-ty.ensures c.in_ok-key.ensures c.in_ok-insert.ensures.updates.0
