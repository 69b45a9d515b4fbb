use Rattle.std.proofs.Common.{ℕ, false, map, take}
use Rattle.sc_terms.specs.Folds.{truth_term, equal_term}
use Rattle.sc_terms.specs.Tables.{tree, StandsFor}
use Rattle.sc_closure_rules.specs.Making.{Puts}
use Rattle.sc_candidates.proofs.equations.put_equations.Given as goal

abbrev pub invariant-loop-member : goal.invariant-loop-member
invariant-loop-member l =
    Puts l.fn.terms l.terms l.initial.numbers.items l.numbers.items (map (λ (n : ℕ). equal_term (tree l.fn.terms n) (tree l.fn.terms l.term)) (take l.member-index l.members)) × StandsFor l.terms l.never (truth_term false)
