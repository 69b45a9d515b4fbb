use Rattle.std.proofs.Common.{map, flat_map, length}
use Rattle.std.specs.List.Sorted.{IsStrictlySortedBy}
use Rattle.sc_smtlib_lines.specs.Ancestries.{nested_function}
use Rattle.sc_smtlib_lines.specs.Functions.{function_cmp}
use Rattle.sc_smtlib_lines.specs.Gaining.{AreWithin, Leads, seen_at}
use Rattle.sc_smtlib_lines.proofs.ancestries.put_nested_with.Given as goal

abbrev pub invariant-loop-b : goal.invariant-loop-b
invariant-loop-b l = record {
  ascending : IsStrictlySortedBy function_cmp l.set;
  within : AreWithin (length l.fn.names.terms.now) l.rest;
  leads : Leads l.fn.set l.set (flat_map (nested_function l.fn.names.sorts.now (seen_at l.fn.names l.fn.a)) (map (seen_at l.fn.names) l.rest))
      (flat_map (nested_function l.fn.names.sorts.now (seen_at l.fn.names l.fn.a)) (map (seen_at l.fn.names) l.fn.all));
}

abbrev pub decreases-loop-b : goal.decreases-loop-b
decreases-loop-b l = length l.rest
