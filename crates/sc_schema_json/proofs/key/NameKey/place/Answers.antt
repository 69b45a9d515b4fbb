use Rattle.std.specs.Map.{keys_of}
use Rattle.sc_schema_json.proofs.PlaceLaws.{name_found, name_absent}
use Rattle.sc_schema_json.proofs.key.NameKey.place.Goals as goal

pub returns-in-Ok-clause-found : goal.returns-in-Ok-clause-found
returns-in-Ok-clause-found c = name_found (keys_of c.args.links.now) c.args.key.now c.in-Ok.at c.in-Ok.ensures.found

pub returns-in-Err-clause-none : goal.returns-in-Err-clause-none
returns-in-Err-clause-none c = name_absent (keys_of c.args.links.now) c.args.key.now c.in-Err.field-0 c.in-Err.ensures.absent
