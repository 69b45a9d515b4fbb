use Rattle.sc_refutations.proofs.KnownLaws.{says_at}
use Rattle.sc_refutations.proofs.known.is_false.Goals as goal

pub returns : goal.returns
returns c = says_at c.args.step c.args.marks.now c.args.code 0 c.requires
