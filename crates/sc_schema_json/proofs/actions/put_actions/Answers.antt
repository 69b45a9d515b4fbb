use Rattle.std.proofs.Common.{rules, ◌≡◌, Some, ap, ◌∙◌}
use Rattle.std.specs.List.{slice_get}
use Rattle.std.specs.Vec.Iter.{into_iter_items}
use Rattle.sc_schema_json.specs.Schemas.{action_links, IsActionOf}
use Rattle.sc_schema_json.proofs.BuildingLaws.{built_at, built_next}
use Rattle.sc_schema_json.proofs.actions.put_actions.Goals as goal

pub loop-action-preserved : goal.loop-action-preserved
loop-action-preserved c =
    let all = c.args.declared in
    let left = into_iter_items c.loop-action.action-iterator in
    let rest = into_iter_items c.next.new.self in
    let there : slice_get all c.len-at.result ≡ Some c.in-Some.action =
    ap (slice_get all) c.len-at.ensures ∙ built_at (IsActionOf (action_links all)) all left rest c.loop-action.actions c.in-Some.action c.loop-action.invariant.built c.in-Some.ensures.steps.0 in
    let made : IsActionOf (action_links all) c.in-Some.action c.in_ok-made.made = c.in_ok-made.ensures all c.requires.links there in
    record {
      goes_on = search rules;
      ends = search rules;
      built =
          built_next (IsActionOf (action_links all)) all left rest c.loop-action.actions c.push.new.self c.in-Some.action c.in_ok-made.made c.loop-action.invariant.built c.in-Some.ensures.steps.0 made c.in_ok-push.ensures.ok;
    }
