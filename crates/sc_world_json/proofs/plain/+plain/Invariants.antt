use Rattle.std.proofs.Common.{◌≡◌, drop}
use Rattle.std.specs.List.{list_all}
use Rattle.sc_world_json.specs.PlainKeys.{is_plain, are_plain}
use Rattle.sc_world_json.proofs.plain.+plain.Given as goal

abbrev pub invariant-is_plain_set-loop-member : goal.invariant-is_plain_set-loop-member
invariant-is_plain_set-loop-member l = list_all is_plain (drop l.member-index l.members) ≡ list_all is_plain l.members

abbrev pub invariant-are_plain-loop-field : goal.invariant-are_plain-loop-field
invariant-are_plain-loop-field l = are_plain (drop l.field-index l.fields) ≡ are_plain l.fields
