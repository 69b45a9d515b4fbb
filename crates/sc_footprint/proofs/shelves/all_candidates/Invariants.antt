use Rattle.std.proofs.Common.{◌<◌, length}
use Rattle.std.specs.List.{AllByRecursion}
use Rattle.sc_footprint.specs.Shelving.{AreCandidatesSoFar}
use Rattle.sc_footprint.proofs.shelves.all_candidates.Given as goal

abbrev pub invariant-loop-n : goal.invariant-loop-n
invariant-loop-n l = record {
  within : AllByRecursion (λ n. n < length l.terms) l.n-iterator;
  so_far : AreCandidatesSoFar l.terms l.closed.keys l.n-iterator l.candidates.keys;
}
