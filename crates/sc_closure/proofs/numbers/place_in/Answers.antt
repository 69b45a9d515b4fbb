use Rattle.sc_closure.proofs.IndexLaws.{place_found, place_missing}
use Rattle.sc_closure.proofs.numbers.place_in.Goals as goal

pub returns-in-Some : goal.returns-in-Some
returns-in-Some c = place_found c.args.numbers.now.keys c.args.n c.in-Some.before c.in-Some.ensures.index

pub returns-in-None : goal.returns-in-None
returns-in-None c = place_missing c.args.numbers.now.keys c.args.n c.in-None.ensures.index
