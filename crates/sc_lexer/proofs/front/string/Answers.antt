use Rattle.sc_lexer.proofs.FrontLaws.{IsFront_string}
use Rattle.sc_lexer.proofs.front.string.Goals as goal

pub returns-in-Some-clause-some : goal.returns-in-Some-clause-some
returns-in-Some-clause-some c = IsFront_string _ _ c.requires.some c.requires.quote c.in-Some.ensures.within c.in-Some.ensures.some
