use Rattle.std.proofs.Common.{◌-◌, map}
use Rattle.sc_terms.specs.Tables.{tree}
use Rattle.sc_terms.specs.Folds.{equal_term, bit_term}
use Rattle.sc_term_definitions.specs.Definitions.{counted}
use Rattle.sc_term_definitions.specs.Making.{Puts}
use Rattle.sc_term_definitions.proofs.inputs.put_equal_bits.Given as goal

abbrev pub invariant-loop-place : goal.invariant-loop-place
invariant-loop-place l = Puts l.fn.terms l.terms l.initial.numbers.items l.numbers.items (map (λ i. equal_term (bit_term (tree l.fn.terms l.a) i) (bit_term (tree l.fn.terms l.b) i)) (counted 0 (l.place - 0)))
