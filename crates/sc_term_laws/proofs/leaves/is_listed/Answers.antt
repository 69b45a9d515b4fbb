use Rattle.sc_term_laws.proofs.ChoicesLaws.{among_told}
use Rattle.sc_term_laws.proofs.leaves.is_listed.Goals as goal

pub returns : goal.returns
returns c = among_told c.args.uids.now c.args.uid.now c.is_among.result c.is_among.ensures
