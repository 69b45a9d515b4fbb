use Rattle.sc_schema_syntax.proofs.PlacesLaws.{are_placed}
use Rattle.sc_schema_syntax.proofs.SyntaxLaws.{settled}
use Rattle.sc_schema_syntax.proofs.WellWrittenLaws.{well_written}
use Rattle.sc_schema_syntax.proofs.law.syntax_laws.Goals as goal

pub returns-clause-written : goal.returns-clause-written
returns-clause-written c = well_written

pub returns-clause-one : goal.returns-clause-one
returns-clause-one c = settled

pub returns-clause-placed : goal.returns-clause-placed
returns-clause-placed c = are_placed
