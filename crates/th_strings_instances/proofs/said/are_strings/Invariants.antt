use Rattle.std.proofs.Common.{◌≡◌, ◌<◌, length}
use Rattle.std.specs.List.{AllByRecursion, list_all}
use Rattle.th_strings_instances.specs.Places.{is_string_at}
use Rattle.th_strings_instances.proofs.said.are_strings.Given as goal

abbrev pub invariant-loop-term : goal.invariant-loop-term
invariant-loop-term l = record {
  within : AllByRecursion (λ n. n < length l.problem.nodes) l.rest;
  whole : list_all (is_string_at l.problem) l.fn.terms ≡ list_all (is_string_at l.problem) l.rest;
}

abbrev pub decreases-loop-term : goal.decreases-loop-term
decreases-loop-term l = length l.rest
