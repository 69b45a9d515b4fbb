use Rattle.std.proofs.Common.{◌≡◌, ◌<◌, ◌++◌, ℕ, map, flat_map, length}
use Rattle.std.specs.List.{AllByRecursion}
use Rattle.sc_terms.specs.Tables.{tree}
use Rattle.sc_smtlib_lines.specs.Gaining.{terms_of}
use Rattle.sc_smtlib_lines.specs.Scripts.{definition_at, with_newline}
use Rattle.sc_smtlib_lines.proofs.assertions.put_definitions.Given as goal

abbrev pub invariant-loop-place : goal.invariant-loop-place
invariant-loop-place l = record {
  within : AllByRecursion (λ x. x < length (terms_of l.fn.names)) l.rest;
  put : l.out.items ++ flat_map with_newline (map (definition_at l.fn.names.sorts.now (terms_of l.fn.names) (tree l.fn.names.terms.now l.fn.goal)) l.rest)
      ≡ l.fn.out.items ++ flat_map with_newline (map (definition_at l.fn.names.sorts.now (terms_of l.fn.names) (tree l.fn.names.terms.now l.fn.goal)) l.fn.order);
}

abbrev pub decreases-loop-place : goal.decreases-loop-place
decreases-loop-place l = length l.rest
