use Rattle.std.proofs.Common.{◌-◌, map}
use Rattle.sc_terms.specs.Tables.{tree}
use Rattle.sc_term_definitions.specs.Definitions.{counted, place_agrees}
use Rattle.sc_term_definitions.specs.Making.{Puts}
use Rattle.sc_term_definitions.proofs.inputs.put_agreements.Given as goal

abbrev pub invariant-loop-place : goal.invariant-loop-place
invariant-loop-place l = Puts l.fn.terms l.terms l.initial.numbers.items l.numbers.items (map (place_agrees (tree l.fn.terms l.a) (tree l.fn.terms l.b)) (counted 0 (l.place - 0)))
