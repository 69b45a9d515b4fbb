use Rattle.std.proofs.Common.{◌≡◌, ◌<◌, length, map, find}
use Rattle.std.specs.List.{AllByRecursion}
use Rattle.sc_terms.specs.Tables.{tree}
use Rattle.sc_rule_instances.specs.Lookups.{is_above}
use Rattle.sc_rule_instances.proofs.parts.above_among.Given as goal

abbrev pub invariant-loop-n : goal.invariant-loop-n
invariant-loop-n l = record {
  within : AllByRecursion (λ t. t < length l.problem.nodes) l.rest;
  left : find (is_above l.sort (tree l.problem.nodes l.entity)) (map (tree l.problem.nodes) l.fn.terms) ≡ find (is_above l.sort (tree l.problem.nodes l.entity)) (map (tree l.problem.nodes) l.rest);
}

abbrev pub decreases-loop-n : goal.decreases-loop-n
decreases-loop-n l = length l.rest
