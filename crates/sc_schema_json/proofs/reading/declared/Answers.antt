use Rattle.sc_schema_json.proofs.ReadingLaws.{refuses_form, refuses_names}
use Rattle.sc_schema_json.proofs.reading.declared.Goals as goal

pub returns-in-Ok-resolve-clause-resolved : goal.returns-in-Ok-resolve-clause-resolved
returns-in-Ok-resolve-clause-resolved c =
    let written = c.syntax_laws.ensures.written c.args.bytes.now c.in-Ok.written c.in-Ok.ensures.ok in
    c.resolution_laws.ensures.resolved c.in-Ok.written c.in-Ok-resolve.resolved written c.in-Ok-resolve.ensures.ok

pub returns-in-Ok-clause-err : goal.returns-in-Ok-clause-err
returns-in-Ok-clause-err c = refuses_names c.args.bytes.now c.in-Ok.written c.in-Err-resolve.fault c.in-Ok.ensures.ok c.in-Err-resolve.ensures.err

pub returns-clause-err : goal.returns-clause-err
returns-clause-err c = refuses_form c.args.bytes.now c.in-Err.fault c.in-Err.ensures.err
