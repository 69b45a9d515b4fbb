use Rattle.std.proofs.Common.{◌≡◌, ◌++◌, map, flat_map, length}
use Rattle.sc_smtlib_lines.specs.Ancestries.{own_line}
use Rattle.sc_smtlib_lines.specs.Gaining.{AreWithin, seen_at, terms_of}
use Rattle.sc_smtlib_lines.specs.Scripts.{with_newline}
use Rattle.sc_smtlib_lines.proofs.assertions.put_all_own.Given as goal

abbrev pub invariant-loop-a : goal.invariant-loop-a
invariant-loop-a l = record {
  within : AreWithin (length l.fn.names.terms.now) l.rest;
  put : l.out.items ++ flat_map with_newline (flat_map (own_line l.fn.names.sorts.now (terms_of l.fn.names)) (map (seen_at l.fn.names) l.rest))
      ≡ l.fn.out.items ++ flat_map with_newline (flat_map (own_line l.fn.names.sorts.now (terms_of l.fn.names)) (map (seen_at l.fn.names) l.fn.all));
}

abbrev pub decreases-loop-a : goal.decreases-loop-a
decreases-loop-a l = length l.rest
