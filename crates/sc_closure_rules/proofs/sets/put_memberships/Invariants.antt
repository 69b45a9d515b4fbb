use Rattle.std.proofs.Common.{ℕ, map, take}
use Rattle.sc_terms.specs.Tables.{tree}
use Rattle.sc_rule_laws.specs.Terms.{member}
use Rattle.sc_term_definitions.specs.Making.{Puts}
use Rattle.sc_closure_rules.proofs.sets.put_memberships.Given as goal

abbrev pub invariant-loop-other : goal.invariant-loop-other
invariant-loop-other l = Puts l.fn.terms l.terms l.initial.numbers.items l.numbers.items (map (λ (m : ℕ). member (tree l.fn.terms m) (tree l.fn.terms l.set)) (take l.other-index l.others))
