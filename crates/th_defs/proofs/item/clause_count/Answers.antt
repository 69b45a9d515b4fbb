use Rattle.std.proofs.Common.{◌∙◌}
use Rattle.th_defs.proofs.ReadLaws.{definition_clauses_in, address_clauses_in}
use Rattle.th_defs.proofs.item.clause_count.Goals as goal

pub returns-in-Definition : goal.returns-in-Definition
returns-in-Definition c = λ p. c.definition_count.ensures ∙ definition_clauses_in p _ _ _ _ _ c.in-Definition.is

pub returns-in-Address : goal.returns-in-Address
returns-in-Address c = λ p. address_clauses_in p _ _ c.in-Address.is
