use Rattle.sc_schema.proofs.IndexLaws.{in_order_members}
use Rattle.sc_schema.proofs.law.order_laws.Goals as goal

pub returns-clause-members : goal.returns-clause-members
returns-clause-members c = in_order_members
