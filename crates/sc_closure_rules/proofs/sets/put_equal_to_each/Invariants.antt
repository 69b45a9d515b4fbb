use Rattle.std.proofs.Common.{ℕ, map, take}
use Rattle.sc_terms.specs.Tables.{tree}
use Rattle.sc_terms.specs.Folds.{equal_term}
use Rattle.sc_term_definitions.specs.Making.{Puts}
use Rattle.sc_closure_rules.proofs.sets.put_equal_to_each.Given as goal

abbrev pub invariant-loop-other : goal.invariant-loop-other
invariant-loop-other l = Puts l.fn.terms l.terms l.initial.numbers.items l.numbers.items (map (λ (m : ℕ). equal_term (tree l.fn.terms l.n) (tree l.fn.terms m)) (take l.other-index l.others))
