use Rattle.std.proofs.Common.{rules, ◌≡◌, Some, ap, ◌∙◌}
use Rattle.std.specs.List.{slice_get}
use Rattle.std.specs.Vec.Iter.{into_iter_items}
use Rattle.sc_schema_json.specs.Schemas.{type_links, IsEntityTypeOf}
use Rattle.sc_schema_json.proofs.BuildingLaws.{built_at, built_next}
use Rattle.sc_schema_json.proofs.types.put_types.Goals as goal

pub loop-entity_type-preserved : goal.loop-entity_type-preserved
loop-entity_type-preserved c =
    let all = c.args.declared in
    let left = into_iter_items c.loop-entity_type.entity_type-iterator in
    let rest = into_iter_items c.next.new.self in
    let there : slice_get all c.len-at.result ≡ Some c.in-Some.entity_type =
    ap (slice_get all) c.len-at.ensures ∙ built_at (IsEntityTypeOf (type_links all)) all left rest c.loop-entity_type.types c.in-Some.entity_type c.loop-entity_type.invariant.built c.in-Some.ensures.steps.0 in
    let made : IsEntityTypeOf (type_links all) c.in-Some.entity_type c.in_ok-made.made = c.in_ok-made.ensures all c.requires.links there in
    record {
      goes_on = search rules;
      ends = search rules;
      built =
          built_next (IsEntityTypeOf (type_links all)) all left rest c.loop-entity_type.types c.push.new.self c.in-Some.entity_type c.in_ok-made.made c.loop-entity_type.invariant.built c.in-Some.ensures.steps.0 made c.in_ok-push.ensures.ok;
    }
