use Rattle.std.proofs.Common.{◌≡◌, map, drop}
use Rattle.sc_terms.specs.Tables.{tree}
use Rattle.th_strings_instances.specs.Patterns.{with_asked, patterns}
use Rattle.th_strings_instances.proofs.asking.patterns.Given as goal

abbrev pub invariant-loop-place : goal.invariant-loop-place
invariant-loop-place l = with_asked l.patterns.items (map (tree l.problem.nodes) (drop l.place l.problem.closed)) ≡ patterns l.problem
