use Rattle.std.proofs.lemmas.Cmp.{nat_list_cmp_total}
use Rattle.std.proofs.lemmas.Map.Lookups.{exact_bytes}
use Rattle.sc_schema.proofs.PlaceLaws.{searched, absent}
use Rattle.sc_schema_types.proofs.cycle.place.Goals as goal

pub returns-in-Ok-clause-found : goal.returns-in-Ok-clause-found
returns-in-Ok-clause-found c = searched exact_bytes _ _ c.in-Ok.at c.in-Ok.ensures.bound c.in-Ok.ensures.position

pub returns-in-Err-clause-none : goal.returns-in-Err-clause-none
returns-in-Err-clause-none c = absent nat_list_cmp_total _ _ c.in-Err.field-0 c.requires c.in-Err.ensures.position
