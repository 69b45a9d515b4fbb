use Rattle.std.proofs.Common.{◌≡◌, map, take}
use Rattle.serde_json.specs.View.{view, members_view}
use Rattle.sc_world_json.specs.Text.{value_data, fields_data}
use Rattle.sc_world_json.proofs.values.+values.Given as goal

abbrev pub invariant-member_values-loop-member : goal.invariant-member_values-loop-member
invariant-member_values-loop-member l = map view l.values.items ≡ map value_data (take l.member-index l.members)

abbrev pub invariant-field_values-loop-field : goal.invariant-field_values-loop-field
invariant-field_values-loop-field l = members_view l.members.entries ≡ fields_data (take l.field-index l.fields)
