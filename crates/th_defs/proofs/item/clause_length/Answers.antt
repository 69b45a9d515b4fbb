use Rattle.std.proofs.Common.{◌∙◌}
use Rattle.th_defs.proofs.ReadLaws.{definition_literals_in, address_literals_in}
use Rattle.th_defs.proofs.item.clause_length.Goals as goal

pub returns-in-Definition : goal.returns-in-Definition
returns-in-Definition c = λ p h. c.definition_length.ensures ∙ definition_literals_in p _ _ _ _ _ c.in-Definition.is _ h

pub returns-in-Address : goal.returns-in-Address
returns-in-Address c = λ p h. address_literals_in p _ _ c.in-Address.is _ h
