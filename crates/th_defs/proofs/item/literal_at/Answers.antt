use Rattle.std.proofs.Common.{◌∙◌}
use Rattle.th_defs.proofs.ReadLaws.{definition_below, definition_literal_is, address_below, address_literal_is}
use Rattle.th_defs.proofs.item.literal_at.Goals as goal

pub definition_literal-requires-clause-clause : goal.definition_literal-requires-clause-clause
definition_literal-requires-clause-clause c = definition_below c.args.problem.now _ _ _ _ _ c.in-Definition.is _ c.requires.clause

pub address_literal-requires : goal.address_literal-requires
address_literal-requires c = address_below c.args.problem.now _ _ c.in-Address.is _ c.requires.clause

pub returns-in-Definition : goal.returns-in-Definition
returns-in-Definition c = c.definition_literal.ensures ∙ definition_literal_is c.args.problem.now _ _ _ _ _ c.in-Definition.is _ _ c.requires.clause c.requires.place

pub returns-in-Address : goal.returns-in-Address
returns-in-Address c = c.address_literal.ensures ∙ address_literal_is c.args.problem.now _ _ c.in-Address.is _ _ c.requires.clause c.requires.place
