use Rattle.std.proofs.Common.{ℕ, flat_map, take}
use Rattle.sc_terms.specs.Tables.{tree}
use Rattle.sc_closure_rules.specs.Making.{Puts}
use Rattle.sc_candidates.specs.Ancestors.{up_of}
use Rattle.sc_candidates.proofs.ancestors.meet_above.Given as goal

abbrev pub invariant-loop-above : goal.invariant-loop-above
invariant-loop-above l = Puts l.fn.terms l.terms l.initial.numbers.items l.numbers.items (flat_map (λ (n : ℕ). up_of (tree l.fn.terms l.term) (tree l.fn.terms l.set) (tree l.fn.terms n)) (take l.above-index l.all_above))
