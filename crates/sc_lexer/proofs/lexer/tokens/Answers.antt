use Rattle.sc_lexer.proofs.UniqueLaws.{Gives_read}
use Rattle.sc_lexer.proofs.lexer.tokens.Goals as goal

pub returns-clause-complete : goal.returns-clause-complete
returns-clause-complete c = Gives_read _ _ c.read.ensures.ok c.read.ensures.err
