use Rattle.sc_closure_rules.proofs.ClosedTermLaws.{closed_made}
use Rattle.sc_closure_rules.proofs.law.closed_laws.Goals as goal

pub returns : goal.returns
returns c = record { judged = λ d env literals x t lawful is closed. closed_made c.definition_laws.ensures.inputs d env literals x lawful is closed }
