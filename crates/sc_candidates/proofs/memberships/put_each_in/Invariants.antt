use Rattle.std.proofs.Common.{ℕ, map, take}
use Rattle.sc_terms.specs.Tables.{tree}
use Rattle.sc_rule_laws.specs.Terms.{member}
use Rattle.sc_closure_rules.specs.Making.{Puts}
use Rattle.sc_candidates.proofs.memberships.put_each_in.Given as goal

abbrev pub invariant-loop-member : goal.invariant-loop-member
invariant-loop-member l = Puts l.fn.terms l.terms l.initial.numbers.items l.numbers.items (map (λ (m : ℕ). member (tree l.fn.terms m) (tree l.fn.terms l.set)) (take l.member-index l.members))
