use Rattle.std.proofs.Common.{◌≡◌, ◌+◌, ◌*◌, ℕ, List, take}
use Rattle.std.specs.List.{flat_map}
use Rattle.sc_sorts.specs.declared.sort.Sort.{Sort, size-Sort}
use Rattle.sc_sorts.specs.Defaults.{default_field, default_of, is_option}
use Rattle.sc_sorts.proofs.default.+defaults.Given as goal

abbrev pub decreases-default_of : goal.decreases-default_of
decreases-default_of l = 3 * size-Sort l.sort.now

abbrev pub decreases-put_field : goal.decreases-put_field
decreases-put_field l = 3 * size-Sort l.field.now.1 + 1

abbrev pub decreases-default_fields : goal.decreases-default_fields
decreases-default_fields l = 3 * goal.size-default_fields l + 2

abbrev pub invariant-default_fields-loop-field : goal.invariant-default_fields-loop-field
invariant-default_fields-loop-field l = l.defaults ≡ flat_map (λ (f : List ℕ × Sort). default_field f.0 (is_option f.1) (default_of f.1)) (take l.field-index l.fields)
