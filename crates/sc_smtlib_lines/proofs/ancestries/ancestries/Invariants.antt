use Rattle.std.proofs.Common.{◌≡◌, ◌<◌, ◌++◌, ℕ, map, length}
use Rattle.std.specs.List.{AllByRecursion}
use Rattle.sc_terms.specs.Tables.{tree}
use Rattle.sc_smtlib_lines.specs.Ancestries.{ancestries}
use Rattle.sc_smtlib_lines.specs.Gaining.{AreWithin, seen_at, terms_of}
use Rattle.sc_smtlib_lines.proofs.ancestries.ancestries.Given as goal

abbrev pub invariant-loop-n : goal.invariant-loop-n
invariant-loop-n l = record {
  all_in : AreWithin (length l.fn.names.terms.now) l.all;
  within : AllByRecursion (λ n. n < length l.fn.names.terms.now) l.rest;
  are : map (seen_at l.fn.names) l.all ++ ancestries (map (tree l.fn.names.terms.now) l.rest) ≡ ancestries (terms_of l.fn.names);
}

abbrev pub decreases-loop-n : goal.decreases-loop-n
decreases-loop-n l = length l.rest
