use Rattle.std.proofs.Common.{◌≡◌, ◌++◌, map, flat_map, drop}
use Rattle.sc_smtlib_terms.specs.Sorts.{data_line}
use Rattle.sc_smtlib_lines.specs.Scripts.{with_newline}
use Rattle.sc_smtlib_lines.proofs.declarations.put_datatypes.Given as goal

abbrev pub invariant-loop-sort : goal.invariant-loop-sort
invariant-loop-sort l = l.out.items ++ flat_map with_newline (map (data_line l.sorts) (drop l.sort-index l.sorts))
    ≡ l.fn.out.items ++ flat_map with_newline (map (data_line l.sorts) l.sorts)
