use Rattle.std.proofs.Common.{◌≡◌, ◌<◌, ◌++◌, map, flat_map, drop, length}
use Rattle.std.specs.List.{AllByRecursion}
use Rattle.sc_footprint.specs.Problems.{closed_terms}
use Rattle.sc_model_values.specs.Models.{truth_in}
use Rattle.sc_model_laws.specs.Vals.{member_in}
use Rattle.sc_terms.specs.Tables.{tree}
use Rattle.sc_model_values.proofs.members.assigned_of.Given as goal

abbrev pub invariant-loop-place : goal.invariant-loop-place
invariant-loop-place l = record {
  within : AllByRecursion (λ n. n < length l.problem.nodes) l.members;
  so_far : map (tree l.problem.nodes) l.members ++ flat_map (member_in (truth_in l.problem l.m) (tree l.problem.nodes l.term)) (map (tree l.problem.nodes) (drop l.place l.problem.closed))
      ≡ flat_map (member_in (truth_in l.problem l.m) (tree l.problem.nodes l.term)) (closed_terms l.problem);
}
