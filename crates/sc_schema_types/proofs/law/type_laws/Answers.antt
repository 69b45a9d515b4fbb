use Rattle.sc_schema_types.proofs.TypesLaws.{settled, expansion_proper, expansion_parents}
use Rattle.sc_schema_types.proofs.law.type_laws.Goals as goal

pub returns : goal.returns
returns c = record { settled = settled; expanded = expansion_proper; kept = expansion_parents }
