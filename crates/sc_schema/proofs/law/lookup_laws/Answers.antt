use Rattle.sc_schema.proofs.LookupLaws.{type_found, type_declared, action_found, action_declared}
use Rattle.sc_schema.proofs.law.lookup_laws.Goals as goal

pub returns-clause-type_found : goal.returns-clause-type_found
returns-clause-type_found c = type_found

pub returns-clause-type_declared : goal.returns-clause-type_declared
returns-clause-type_declared c = type_declared

pub returns-clause-action_found : goal.returns-clause-action_found
returns-clause-action_found c = action_found

pub returns-clause-action_declared : goal.returns-clause-action_declared
returns-clause-action_declared c = action_declared
