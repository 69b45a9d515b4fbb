use Rattle.std.proofs.Common.{◌≡◌, ◌++◌, flat_map, drop}
use Rattle.sc_smtlib_lines.specs.Scripts.{choices_lines, with_newline}
use Rattle.sc_smtlib_lines.proofs.declarations.put_choices.Given as goal

abbrev pub invariant-loop-sort : goal.invariant-loop-sort
invariant-loop-sort l = l.out.items ++ flat_map with_newline (flat_map (choices_lines l.sorts) (drop l.sort-index l.sorts))
    ≡ l.fn.out.items ++ flat_map with_newline (flat_map (choices_lines l.sorts) l.sorts)
