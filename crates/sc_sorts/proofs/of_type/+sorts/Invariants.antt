use Rattle.std.proofs.Common.{◌≡◌, ◌+◌, ◌*◌, map, take}
use Rattle.sc_schema.specs.declared.ty.Ty.{size-Ty}
use Rattle.sc_sorts.specs.OfTypes.{field_sort}
use Rattle.sc_sorts.proofs.of_type.+sorts.Given as goal

abbrev pub decreases-sort_of : goal.decreases-sort_of
decreases-sort_of l = 3 * size-Ty l.ty.now

abbrev pub decreases-boxed_sort : goal.decreases-boxed_sort
decreases-boxed_sort l = 3 * size-Ty l.ty.now + 1

abbrev pub decreases-put_field : goal.decreases-put_field
decreases-put_field l = 3 * size-Ty l.attribute.now.2 + 1

abbrev pub decreases-sorts_of : goal.decreases-sorts_of
decreases-sorts_of l = 3 * goal.size-sorts_of l + 2

abbrev pub invariant-sorts_of-loop-attribute : goal.invariant-sorts_of-loop-attribute
invariant-sorts_of-loop-attribute l = l.fields ≡ map field_sort (take l.attribute-index l.attributes)
