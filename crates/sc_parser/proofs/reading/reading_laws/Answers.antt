use Rattle.sc_parser.proofs.ReadingLaws.{no_fault}
use Rattle.sc_parser.proofs.reading.reading_laws.Goals as goal

pub returns-clause-apart : goal.returns-clause-apart
returns-clause-apart c = no_fault
