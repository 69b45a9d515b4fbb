use Rattle.std.proofs.Common.{ℕ, map, take}
use Rattle.sc_terms.specs.Tables.{tree}
use Rattle.sc_rule_laws.specs.Terms.{member}
use Rattle.sc_closure_rules.specs.Making.{Puts}
use Rattle.sc_candidates.proofs.memberships.put_in_each.Given as goal

abbrev pub invariant-loop-set : goal.invariant-loop-set
invariant-loop-set l = Puts l.fn.terms l.terms l.initial.numbers.items l.numbers.items (map (λ (m : ℕ). member (tree l.fn.terms l.term) (tree l.fn.terms m)) (take l.set-index l.sets))
