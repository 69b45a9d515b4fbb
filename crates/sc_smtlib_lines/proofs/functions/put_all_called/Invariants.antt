use Rattle.std.proofs.Common.{◌<◌, ℕ, flat_map, map, length}
use Rattle.std.specs.List.{AllByRecursion}
use Rattle.std.specs.List.Sorted.{IsStrictlySortedBy}
use Rattle.sc_terms.specs.Tables.{tree}
use Rattle.sc_smtlib_lines.specs.Functions.{function_cmp, called}
use Rattle.sc_smtlib_lines.specs.Gaining.{Leads}
use Rattle.sc_smtlib_lines.proofs.functions.put_all_called.Given as goal

abbrev pub invariant-loop-n : goal.invariant-loop-n
invariant-loop-n l = record {
  ascending : IsStrictlySortedBy function_cmp l.set;
  within : AllByRecursion (λ n. n < length l.fn.names.terms.now) l.rest;
  leads : Leads l.fn.set l.set (flat_map (called l.fn.names.sorts.now) (map (tree l.fn.names.terms.now) l.rest))
      (flat_map (called l.fn.names.sorts.now) (map (tree l.fn.names.terms.now) l.fn.names.numbers.now.keys));
}

abbrev pub decreases-loop-n : goal.decreases-loop-n
decreases-loop-n l = length l.rest
