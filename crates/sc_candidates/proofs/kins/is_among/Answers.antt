use Rattle.sc_candidates.proofs.KinLaws.{among_by}
use Rattle.sc_candidates.proofs.kins.is_among.Goals as goal

pub returns : goal.returns
returns c = among_by _ c.args.numbers.now c.args.n c.contains.ensures.value
