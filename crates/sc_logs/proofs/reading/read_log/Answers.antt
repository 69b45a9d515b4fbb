use Rattle.sc_logs.proofs.ReadingLaws.{exact_of, back_of}
use Rattle.sc_logs.proofs.reading.read_log.Goals as goal

pub returns-clause-exact : goal.returns-clause-exact
returns-clause-exact c told is = exact_of c.args.bytes.now _ told c.read.ensures.found c.read.ensures.fault is

pub returns-clause-back : goal.returns-clause-back
returns-clause-back c g e is = back_of c.args.bytes.now _ g c.read.ensures.found c.read.ensures.fault e is
