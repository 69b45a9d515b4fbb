use Rattle.sc_schema_json.proofs.OneLaws.{schema_is_one}
use Rattle.sc_schema_json.proofs.SchemaLaws.{schema_lawful}
use Rattle.sc_schema_json.proofs.hierarchy_law.schema_laws.Goals as goal

pub returns-clause-one : goal.returns-clause-one
returns-clause-one c = schema_is_one

pub returns-clause-lawful : goal.returns-clause-lawful
returns-clause-lawful c = schema_lawful
