use Rattle.sc_world_json.proofs.ReadingLaws.{settled}
use Rattle.sc_world_json.proofs.NestWorlds.{world-replayable}
use Rattle.sc_world_json.proofs.ReadWorlds.{world_reads_back}
use Rattle.sc_world_json.proofs.StoredLaws.{stored}
use Rattle.sc_world_json.proofs.law.reading_laws.Goals as goal

pub returns-clause-settled : goal.returns-clause-settled
returns-clause-settled c = settled

pub returns-clause-stored : goal.returns-clause-stored
returns-clause-stored c = stored

pub returns-clause-reads_back : goal.returns-clause-reads_back
returns-clause-reads_back c = world-replayable

pub returns-clause-readable : goal.returns-clause-readable
returns-clause-readable c = world_reads_back
