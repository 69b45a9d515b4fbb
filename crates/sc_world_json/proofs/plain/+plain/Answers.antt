use Rattle.sc_world_json.proofs.PlainLaws.{plain_set, plain_record}
use Rattle.sc_world_json.proofs.plain.+plain.Goals as goal

pub is_plain-returns-in-Set : goal.is_plain-returns-in-Set
is_plain-returns-in-Set t c = plain_set _ c.args.value.now c.in-Set.members c.in-Set.is c.is_plain_set.ensures

pub is_plain-returns-in-Record : goal.is_plain-returns-in-Record
is_plain-returns-in-Record t c = plain_record _ c.args.value.now c.in-Record.fields c.in-Record.is c.are_plain.ensures
