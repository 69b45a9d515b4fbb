use Rattle.sc_term_laws.proofs.JudgingLaws.{sort_is}
use Rattle.sc_term_laws.proofs.law.term_laws.Goals as goal

pub returns : goal.returns
returns c = sort_is
