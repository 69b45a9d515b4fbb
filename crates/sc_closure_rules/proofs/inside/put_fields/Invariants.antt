use Rattle.std.proofs.Common.{ℕ, List, map, take}
use Rattle.sc_terms.specs.Tables.{tree}
use Rattle.sc_terms.specs.Folds.{field_term}
use Rattle.sc_term_definitions.specs.Making.{Puts}
use Rattle.sc_closure_rules.proofs.inside.put_fields.Given as goal

abbrev pub invariant-loop-name : goal.invariant-loop-name
invariant-loop-name l = Puts l.fn.terms l.terms l.initial.numbers.items l.numbers.items (map (λ (name : List ℕ). field_term name (tree l.fn.terms l.n)) (take l.name-index l.names))
