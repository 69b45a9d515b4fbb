use Rattle.std.proofs.Common.{◌≡◌, ◌<◌, ◌++◌, ℕ, map, length}
use Rattle.std.specs.List.{AllByRecursion}
use Rattle.sc_closure_rules.specs.Closure.{parts}
use Rattle.sc_terms.specs.Tables.{tree}
use Rattle.sc_smtlib_lines.specs.Gaining.{terms_of}
use Rattle.sc_smtlib_lines.specs.Names.{places_of, part_places}
use Rattle.sc_smtlib_lines.proofs.order.all_places.Given as goal

abbrev pub invariant-loop-n : goal.invariant-loop-n
invariant-loop-n l = record {
  within : AllByRecursion (λ n. n < length l.fn.names.terms.now) l.rest;
  listed : l.all ++ map (λ t. places_of (terms_of l.fn.names) (parts t)) (map (tree l.fn.names.terms.now) l.rest) ≡ part_places (terms_of l.fn.names);
}

abbrev pub decreases-loop-n : goal.decreases-loop-n
decreases-loop-n l = length l.rest
