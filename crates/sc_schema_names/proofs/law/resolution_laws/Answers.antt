use Rattle.sc_schema_names.proofs.ResolvesLaws.{settled}
use Rattle.sc_schema_names.proofs.ResolvedLaws.{resolves_resolved}
use Rattle.sc_schema_names.proofs.law.resolution_laws.Goals as goal

pub returns-clause-resolved : goal.returns-clause-resolved
returns-clause-resolved c = resolves_resolved

pub returns-clause-one : goal.returns-clause-one
returns-clause-one c = settled
