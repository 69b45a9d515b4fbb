use Rattle.std.proofs.Common.{◌≡◌, ◌++◌, map, flat_map, length}
use Rattle.sc_smtlib_lines.specs.Ancestries.{nested_line}
use Rattle.sc_smtlib_lines.specs.Gaining.{AreWithin, seen_at, terms_of}
use Rattle.sc_smtlib_lines.specs.Scripts.{with_newline}
use Rattle.sc_smtlib_lines.proofs.assertions.put_nested_with.Given as goal

abbrev pub invariant-loop-b : goal.invariant-loop-b
invariant-loop-b l = record {
  within : AreWithin (length l.fn.names.terms.now) l.rest;
  put : l.out.items ++ flat_map with_newline (flat_map (nested_line l.fn.names.sorts.now (terms_of l.fn.names) (seen_at l.fn.names l.fn.a)) (map (seen_at l.fn.names) l.rest))
      ≡ l.fn.out.items ++ flat_map with_newline (flat_map (nested_line l.fn.names.sorts.now (terms_of l.fn.names) (seen_at l.fn.names l.fn.a)) (map (seen_at l.fn.names) l.fn.all));
}

abbrev pub decreases-loop-b : goal.decreases-loop-b
decreases-loop-b l = length l.rest
