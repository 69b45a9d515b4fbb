use Rattle.std.proofs.Common.{map, take}
use Rattle.sc_closure_rules.specs.Closure.{uid_term}
use Rattle.sc_term_definitions.specs.Making.{Puts}
use Rattle.sc_closure_rules.proofs.ancestors.put_uids.Given as goal

abbrev pub invariant-loop-uid : goal.invariant-loop-uid
invariant-loop-uid l = Puts l.fn.terms l.terms l.initial.numbers.items l.numbers.items (map (uid_term l.choices) (take l.uid-index l.choices))
