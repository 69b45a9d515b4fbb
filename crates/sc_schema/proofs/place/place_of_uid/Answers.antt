use Rattle.sc_names.proofs.UidLaws.{uid_cmp_total, uid_cmp_level}
use Rattle.sc_schema.proofs.PlaceLaws.{searched, absent}
use Rattle.sc_schema.proofs.place.place_of_uid.Goals as goal

pub returns-in-Ok-clause-found : goal.returns-in-Ok-clause-found
returns-in-Ok-clause-found c = searched uid_cmp_level _ _ c.in-Ok.at c.in-Ok.ensures.bound c.in-Ok.ensures.position

pub returns-in-Err-clause-none : goal.returns-in-Err-clause-none
returns-in-Err-clause-none c = absent uid_cmp_total _ _ c.in-Err.field-0 c.requires c.in-Err.ensures.position
