use Rattle.sc_parser.proofs.ReadingLaws.{reads_spelled}
use Rattle.sc_parser.proofs.reading.read_lexemes.Goals as goal

pub returns-in-Ok-clause-ok : goal.returns-in-Ok-clause-ok
returns-in-Ok-clause-ok c = λ bytes a. reads_spelled a c.in-Ok.ensures.ok
