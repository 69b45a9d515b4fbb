use Rattle.sc_schema_json.proofs.ReadingLaws.{refuses_schema}
use Rattle.sc_schema_json.proofs.reading.read_schema.Goals as goal

pub returns-in-Ok-clause-err : goal.returns-in-Ok-clause-err
returns-in-Ok-clause-err c = refuses_schema c.args.bytes.now c.in-Ok.resolved c.in-Err-described.fault c.in-Ok.ensures.ok c.in-Err-described.ensures.err
