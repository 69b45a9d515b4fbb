use Rattle.sc_schema_json.proofs.AboveLaws.{places_within}
use Rattle.sc_schema_json.proofs.PickedLaws.{all_above}
use Rattle.sc_schema_json.proofs.above.keys_above.Goals as goal

pub keys_at-requires : goal.keys_at-requires
keys_at-requires g c = places_within c.args.links.now c.args.graph.now c.args.at c.in_ok-places.places c.requires.graph c.in_ok-places.ensures.members

pub returns : goal.returns
returns g c = λ key above h.
    all_above g.K.Key.total c.args.links.now c.args.graph.now c.args.at c.in_ok-places.places c.in_ok-keys.keys key above c.requires.ascending c.requires.declared c.requires.graph c.in_ok-places.ensures.members
    c.in_ok-places.ensures.ascending c.in_ok-keys.ensures h
