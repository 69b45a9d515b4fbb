use Rattle.sc_logs.specs.Readings.{no_log}
use Rattle.sc_logs.proofs.ReadingLaws.{not_empty, stops_at}
use Rattle.sc_logs.proofs.reading.read.Goals as goal

pub returns-in_default-clause-fault : goal.returns-in_default-clause-fault
returns-in_default-clause-fault c = no_log (not_empty c.args.bytes.now c.if-is_empty.ensures) c.in_default.ensures

pub returns-in-Err-clause-fault : goal.returns-in-Err-clause-fault
returns-in-Err-clause-fault c = stops_at c.args.bytes.now c.in-Some.rest.now c.in-Err.fault c.in-Some.ensures c.in-Err.ensures.fault
