use Rattle.std.proofs.Common.{ℕ, flat_map, take}
use Rattle.sc_terms.specs.Tables.{tree}
use Rattle.sc_closure_rules.specs.Making.{Puts}
use Rattle.sc_closure_rules.specs.Closure.{members_by, are_linked}
use Rattle.sc_candidates.proofs.memberships.meet_linked.Given as goal

abbrev pub invariant-loop-other : goal.invariant-loop-other
invariant-loop-other l =
    Puts l.fn.terms l.terms l.initial.numbers.items l.numbers.items
    (flat_map (λ (n : ℕ). members_by (are_linked (tree l.fn.terms l.set) (tree l.fn.terms n)) (tree l.fn.terms l.term) (tree l.fn.terms n)) (take l.other-index l.sets))
