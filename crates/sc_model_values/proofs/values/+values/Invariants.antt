use Rattle.std.proofs.Common.{◌≡◌, ◌+◌, ◌*◌, ℕ, List, map, flat_map, take}
use Rattle.sc_model_values.specs.Models.{model}
use Rattle.sc_model_laws.specs.Vals.{val_of}
use Rattle.sc_sorts.specs.declared.sort.Sort.{Sort, size-Sort}
use Rattle.sc_terms.specs.Folds.{field_term}
use Rattle.sc_terms.specs.Tables.{tree}
use Rattle.sc_terms.specs.Values.{value_in, field_of}
use Rattle.sc_model_values.proofs.values.+values.Given as goal

abbrev pub decreases-plain_value : goal.decreases-plain_value
decreases-plain_value l = 4 * size-Sort l.sort.now

abbrev pub decreases-shown_value : goal.decreases-shown_value
decreases-shown_value l = 4 * size-Sort l.sort.now + 1

abbrev pub decreases-option_value : goal.decreases-option_value
decreases-option_value l = 4 * size-Sort l.inner.now + 1

abbrev pub decreases-set_value : goal.decreases-set_value
decreases-set_value l = 4 * size-Sort l.member.now + 2

abbrev pub decreases-member_values : goal.decreases-member_values
decreases-member_values l = 4 * size-Sort l.sort.now + 1

abbrev pub decreases-record_value : goal.decreases-record_value
decreases-record_value l = 4 * goal.size-record_value l + 3

abbrev pub decreases-put_field : goal.decreases-put_field
decreases-put_field l = 4 * size-Sort l.field.now.1 + 2

abbrev pub invariant-member_values-loop-term : goal.invariant-member_values-loop-term
invariant-member_values-loop-term l = l.values ≡ map (λ (n : ℕ). value_in (val_of (model l.problem l.m l.names) l.sort (tree l.problem.nodes n))) (take l.term-index l.terms)

abbrev pub invariant-record_value-loop-place : goal.invariant-record_value-loop-place
invariant-record_value-loop-place l = l.record ≡ flat_map (λ (f : List ℕ × Sort). field_of (f.0, val_of (model l.problem l.m l.names) f.1 (field_term f.0 (tree l.problem.nodes l.term)))) (take l.place l.fields)
