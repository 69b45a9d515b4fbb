use Rattle.std.proofs.Common.{◌≡◌, ◌<◌, ◌++◌, length, map, get_or}
use Rattle.std.specs.List.{AllByRecursion}
use Rattle.th_strings.proofs.crowds.numbers_at.Given as goal

abbrev pub invariant-loop-place : goal.invariant-loop-place
invariant-loop-place l = record {
  within : AllByRecursion (λ i. i < length l.numbers) l.rest;
  whole : l.found ++ map (λ i. get_or l.numbers i 0) l.rest ≡ map (λ i. get_or l.numbers i 0) l.fn.places;
}

abbrev pub decreases-loop-place : goal.decreases-loop-place
decreases-loop-place l = length l.rest
