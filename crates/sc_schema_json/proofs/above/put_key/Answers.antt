use Rattle.sc_schema_json.proofs.PickedLaws.{picked_put}
use Rattle.sc_schema_json.proofs.above.put_key.Goals as goal

pub returns : goal.returns
returns g c =
    picked_put c.args.links.now c.args.place c.index-links-place.result c.args.keys.now c.push.new.self c.in_ok-copy.field-0 c.requires c.index-links-place.is c.in_ok-copy.ensures c.in_ok-push.ensures.ok
