use Rattle.std.proofs.Common.{ℕ, flat_map, take}
use Rattle.sc_terms.specs.Tables.{tree}
use Rattle.sc_closure_rules.specs.Making.{Puts}
use Rattle.sc_candidates.specs.Ancestors.{both_told}
use Rattle.sc_candidates.proofs.ancestors.meet_entities.Given as goal

abbrev pub invariant-loop-other : goal.invariant-loop-other
invariant-loop-other l = Puts l.fn.terms l.terms l.initial.numbers.items l.numbers.items (flat_map (λ (n : ℕ). both_told (tree l.fn.terms l.above) (tree l.fn.terms n)) (take l.other-index l.all_above))
