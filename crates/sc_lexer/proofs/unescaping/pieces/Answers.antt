use Rattle.sc_lexer.proofs.MeaningLaws.{pieces_spelled}
use Rattle.sc_lexer.proofs.unescaping.pieces.Goals as goal

pub returns-clause-spelled : goal.returns-clause-spelled
returns-clause-spelled c = pieces_spelled _ _ c.read_pieces.ensures
