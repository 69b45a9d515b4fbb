use Rattle.std.specs.Map.{keys_of}
use Rattle.sc_schema_json.proofs.PlaceLaws.{uid_found, uid_absent}
use Rattle.sc_schema_json.proofs.key.UidKey.place.Goals as goal

pub returns-in-Ok-clause-found : goal.returns-in-Ok-clause-found
returns-in-Ok-clause-found c = uid_found (keys_of c.args.links.now) c.args.key.now c.in-Ok.at c.in-Ok.ensures.found

pub returns-in-Err-clause-none : goal.returns-in-Err-clause-none
returns-in-Err-clause-none c = uid_absent (keys_of c.args.links.now) c.args.key.now c.in-Err.field-0 c.in-Err.ensures.absent
