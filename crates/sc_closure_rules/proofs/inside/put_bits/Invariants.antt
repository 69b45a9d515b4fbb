use Rattle.std.proofs.Common.{◌-◌, map}
use Rattle.sc_terms.specs.Tables.{tree}
use Rattle.sc_terms.specs.Folds.{bit_term}
use Rattle.sc_term_definitions.specs.Definitions.{counted}
use Rattle.sc_term_definitions.specs.Making.{Puts}
use Rattle.sc_closure_rules.proofs.inside.put_bits.Given as goal

abbrev pub invariant-loop-place : goal.invariant-loop-place
invariant-loop-place l = Puts l.fn.terms l.terms l.initial.numbers.items l.numbers.items (map (bit_term (tree l.fn.terms l.n)) (counted 0 (l.place - 0)))
