use Rattle.sc_schema_json.proofs.SpellingLaws.{settled}
use Rattle.sc_schema_json.proofs.law.spelling_laws.Goals as goal

pub returns : goal.returns
returns c = settled c.syntax_laws.ensures.one c.syntax_laws.ensures.written c.resolution_laws.ensures.one c.resolution_laws.ensures.resolved c.type_laws.ensures.settled c.type_laws.ensures.expanded c.schema_laws.ensures.one
