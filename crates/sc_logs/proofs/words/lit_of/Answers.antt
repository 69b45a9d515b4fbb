use Rattle.sc_logs.proofs.WordLaws.{lit_negated}
use Rattle.sc_logs.proofs.words.lit_of.Goals as goal

pub returns-in-Some : goal.returns-in-Some
returns-in-Some c = rw c.lit_of_atom.ensures (lit_negated c.args.word.now c.in-Some.atom.now c.hint_of.result c.in-Some.ensures c.hint_of.ensures)
