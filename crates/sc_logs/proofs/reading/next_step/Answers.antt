use Rattle.sc_logs.proofs.ReadingLaws.{next_none}
use Rattle.sc_logs.proofs.reading.next_step.Goals as goal

pub returns-in_default-2 : goal.returns-in_default-2
returns-in_default-2 c = next_none c.args.bytes.now c.in-Some.line.now c.in-Some.rest.now c.in-Some.ensures.0 c.in-Some.ensures.1 (rw c.in_default-2.is at c.in_ok-step.ensures)
