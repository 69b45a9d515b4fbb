use Rattle.std.proofs.Common.{◌≡◌, ◌<◌, ◌++◌, ℕ, map, flat_map, length}
use Rattle.std.specs.List.{AllByRecursion}
use Rattle.sc_terms.specs.Tables.{tree}
use Rattle.sc_smtlib_lines.specs.Gaining.{terms_of}
use Rattle.sc_smtlib_lines.specs.Scripts.{constant_lines, with_newline}
use Rattle.sc_smtlib_lines.proofs.declarations.put_constants.Given as goal

abbrev pub invariant-loop-n : goal.invariant-loop-n
invariant-loop-n l = record {
  within : AllByRecursion (λ n. n < length l.fn.names.terms.now) l.rest;
  put : l.out.items ++ flat_map with_newline (flat_map (constant_lines l.fn.names.sorts.now) (map (tree l.fn.names.terms.now) l.rest))
      ≡ l.fn.out.items ++ flat_map with_newline (flat_map (constant_lines l.fn.names.sorts.now) (terms_of l.fn.names));
}

abbrev pub decreases-loop-n : goal.decreases-loop-n
decreases-loop-n l = length l.rest
