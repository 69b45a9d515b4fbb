use Rattle.std.proofs.Common.{ℕ, ◌<◌, List, get_or}
use Rattle.sc_values.specs.declared.value.Value.{Value}
use Rattle.sc_values.specs.Proper.{IsProper}
use Rattle.sc_values.proofs.proper.+proper.Given as goal

abbrev pub invariant-has_proper_members-loop-member : goal.invariant-has_proper_members-loop-member
invariant-has_proper_members-loop-member l = (k : ℕ) (d : Value) → k < l.member-index → IsProper (get_or l.members k d)

abbrev pub invariant-has_proper_values-loop-field : goal.invariant-has_proper_values-loop-field
invariant-has_proper_values-loop-field l = (k : ℕ) (d : List ℕ × Value) → k < l.field-index → IsProper (get_or l.fields k d).1
