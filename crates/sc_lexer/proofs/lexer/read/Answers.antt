use Rattle.sc_lexer.proofs.ReadingLaws.{Lexes_err}
use Rattle.sc_lexer.specs.Reading.{ill_formed}
use Rattle.sc_lexer.proofs.lexer.read.Goals as goal

pub returns-in-Ok-clause-err : goal.returns-in-Ok-clause-err
returns-in-Ok-clause-err c = Lexes_err _ _ _ c.in-Ok.ensures.cases.0 c.in-Ok.ensures.cases.1 c.text_tokens.ensures.err

pub returns-in-Err-clause-err : goal.returns-in-Err-clause-err
returns-in-Err-clause-err c = let h = c.in-Err.ensures.cases in rw c.valid_up_to.ensures (ill_formed _ h.0 h.1)
