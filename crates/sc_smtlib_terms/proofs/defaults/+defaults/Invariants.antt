use Rattle.std.proofs.Common.{◌≡◌, ◌+◌, ◌*◌, map, take, ℕ, List}
use denote.Param.Weighed.{most}
use Rattle.sc_sorts.specs.declared.sort.Sort.{Sort, size-Sort}
use Rattle.sc_smtlib_terms.specs.Defaults.{default_text}
use Rattle.sc_smtlib_terms.proofs.defaults.+defaults.Given as goal

abbrev pub decreases-default_text : goal.decreases-default_text
decreases-default_text l = 3 * size-Sort l.sort.now

abbrev pub decreases-put_default : goal.decreases-put_default
decreases-put_default l = 3 * size-Sort l.field.now.1 + 1

abbrev pub decreases-default_parts : goal.decreases-default_parts
decreases-default_parts l = 3 * most (λ (f : List ℕ × Sort). size-Sort f.1) l.fields.now + 2

abbrev pub invariant-default_parts-loop-field : goal.invariant-default_parts-loop-field
invariant-default_parts-loop-field l =
    l.parts ≡ map (λ (f : List ℕ × Sort). default_text l.datatypes f.1) (take l.field-index l.fields)
