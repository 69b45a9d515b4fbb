use Rattle.sc_term_laws.proofs.DefaultTypeLaws.{default_agrees}
use Rattle.sc_term_laws.proofs.law.default_laws.Goals as goal

pub returns : goal.returns
returns c = λ s t lawful of_schema. default_agrees s lawful t of_schema
