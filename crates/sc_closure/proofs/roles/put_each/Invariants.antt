use Rattle.std.proofs.Common.{ℕ, map, take}
use Rattle.sc_terms.specs.Tables.{tree}
use Rattle.sc_closure_rules.specs.Making.{Puts}
use Rattle.sc_closure.specs.Following.{met_term}
use Rattle.sc_closure.proofs.roles.put_each.Given as goal

abbrev pub invariant-loop-member : goal.invariant-loop-member
invariant-loop-member l =
    Puts l.fn.terms l.terms l.initial.numbers.items l.numbers.items (map (λ (n : ℕ). met_term l.meeting (tree l.fn.terms n) (tree l.fn.terms l.term)) (take l.member-index l.members))
