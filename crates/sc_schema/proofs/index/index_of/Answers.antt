use Rattle.sc_schema.proofs.RunLaws.{each_ascends}
use Rattle.sc_schema.proofs.index.index_of.Goals as goal

pub types_above-requires : goal.types_above-requires
types_above-requires c = each_ascends _ c.args.actions.now c.requires.each_action
