use Rattle.std.proofs.Common.{ℕ, List, map, take}
use Rattle.sc_terms.specs.Tables.{tree}
use Rattle.sc_sorts.specs.Entities.{entity_sort}
use Rattle.sc_closure_rules.specs.Closure.{ancestors_of}
use Rattle.sc_term_definitions.specs.Making.{Puts}
use Rattle.sc_closure_rules.proofs.ancestors.put_of_types.Given as goal

abbrev pub invariant-loop-name : goal.invariant-loop-name
invariant-loop-name l = Puts l.fn.terms l.terms l.initial.numbers.items l.numbers.items (map (λ (name : List ℕ). ancestors_of (entity_sort l.schema name) (tree l.fn.terms l.entity)) (take l.name-index l.types))
