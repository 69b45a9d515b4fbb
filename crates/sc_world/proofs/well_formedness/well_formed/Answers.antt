use Rattle.sc_world.proofs.PartLaws.{parts_tested}
use Rattle.sc_world.proofs.well_formedness.well_formed.Goals as goal

pub returns : goal.returns
returns c = parts_tested c.args.s.now c.args.env.now c.args.lits.now c.args.w.now _ c.has_well_formed_parts.ensures
