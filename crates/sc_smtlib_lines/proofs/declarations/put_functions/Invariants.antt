use Rattle.std.proofs.Common.{◌≡◌, ◌++◌, map, flat_map, drop}
use Rattle.sc_smtlib_lines.specs.declared.functions.Function.{Function}
use Rattle.sc_smtlib_lines.specs.Scripts.{with_newline}
use Rattle.sc_smtlib_lines.proofs.declarations.put_functions.Given as goal

abbrev pub invariant-loop-f : goal.invariant-loop-f
invariant-loop-f l = l.out.items ++ flat_map with_newline (map (λ (f : Function). f.line) (drop l.f-index l.functions))
    ≡ l.fn.out.items ++ flat_map with_newline (map (λ (f : Function). f.line) l.functions)
