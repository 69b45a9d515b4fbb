use Rattle.std.proofs.Common.{◌≡◌, ◌<◌, length}
use Rattle.std.specs.List.{AllByRecursion}
use Rattle.th_strings_instances.specs.Places.{placed, with_places}
use Rattle.th_strings_instances.proofs.said.terms_of.Given as goal

abbrev pub invariant-loop-n : goal.invariant-loop-n
invariant-loop-n l = record {
  within : AllByRecursion (λ n. n < length l.problem.nodes) l.terms.items;
  whole : with_places l.terms.items (placed l.problem l.rest) ≡ placed l.problem l.fn.numbers;
}

abbrev pub decreases-loop-n : goal.decreases-loop-n
decreases-loop-n l = length l.rest
