use Rattle.std.proofs.Common.{refl}
use Rattle.sc_inputs.proofs.files.schema_in.Goals as goal

pub returns-in-Err-Told-clause-fails : goal.returns-in-Err-Told-clause-fails
returns-in-Err-Told-clause-fails c = (c.in-Err-Told.fault, refl, (rw (c.in-Err-Told.is, c.in-Err-Told.field-0-is, c.in-Err-Told.fault-is) at c.read_schema.ensures.err))
