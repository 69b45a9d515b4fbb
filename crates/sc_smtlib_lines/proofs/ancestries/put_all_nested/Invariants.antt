use Rattle.std.proofs.Common.{map, flat_map, length}
use Rattle.std.specs.List.Sorted.{IsStrictlySortedBy}
use Rattle.sc_smtlib_lines.specs.Ancestries.{nested_function, of_each}
use Rattle.sc_smtlib_lines.specs.Functions.{function_cmp}
use Rattle.sc_smtlib_lines.specs.Gaining.{AreWithin, Leads, seen_at}
use Rattle.sc_smtlib_lines.proofs.ancestries.put_all_nested.Given as goal

abbrev pub invariant-loop-a : goal.invariant-loop-a
invariant-loop-a l = record {
  ascending : IsStrictlySortedBy function_cmp l.set;
  within : AreWithin (length l.fn.names.terms.now) l.rest;
  leads : Leads l.fn.set l.set
      (flat_map (λ a. flat_map (nested_function l.fn.names.sorts.now a) (map (seen_at l.fn.names) l.fn.all)) (map (seen_at l.fn.names) l.rest))
      (of_each (nested_function l.fn.names.sorts.now) (map (seen_at l.fn.names) l.fn.all));
}

abbrev pub decreases-loop-a : goal.decreases-loop-a
decreases-loop-a l = length l.rest
