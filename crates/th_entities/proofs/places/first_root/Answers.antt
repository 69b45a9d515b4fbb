use Rattle.th_entities.proofs.RunLaws.{first_is_root}
use Rattle.th_entities.proofs.places.first_root.Goals as goal

pub returns-clause-some : goal.returns-clause-some
returns-clause-some c = first_is_root c.args.places.now c.in-Some.first.now c.in-Some.field-0-1.now _ _ _ c.in-Some.ensures.cases.0 c.run_length.ensures c.split_at.ensures.front c.split_at.ensures.back
