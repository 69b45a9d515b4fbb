use Rattle.std.proofs.Common.{refl}
use Rattle.std.proofs.lemmas.Option.{slice_get_read, slice_get_past}
use Rattle.sc_parser.proofs.ReadingLaws.{reads_fault, reads_end}
use Rattle.sc_parser.proofs.reading.fault_at.Goals as goal

pub returns-in-Some : goal.returns-in-Some
returns-in-Some c = λ bytes a p. rw c.fault_of.ensures (reads_fault {l = c.in-Some.token.now} a p (slice_get_read _ _ _ _ refl c.in-Some.ensures.lookup.3.0 c.in-Some.ensures.lookup.1))

pub returns-in-None : goal.returns-in-None
returns-in-None c = λ bytes a p. reads_end a p (slice_get_past _ _ c.in-None.ensures.lookup.3)
