use Rattle.std.proofs.Common.{◌≡◌, ◌<◌, ◌+◌, length}
use Rattle.std.specs.List.{AllByRecursion}
use Rattle.sc_footprint.specs.declared.shelves.Shelf.{Shelf}
use Rattle.sc_footprint.specs.Indices.{is_shelf}
use Rattle.sc_footprint.specs.Shelving.{first_place}
use Rattle.sc_footprint.proofs.shelves.place_on.Given as goal

abbrev pub invariant-loop-shelf : goal.invariant-loop-shelf
invariant-loop-shelf l = record {
  keys_in : AllByRecursion (λ (s : Shelf). s.key < length l.terms) l.rest;
  left : l.place + length l.rest ≡ length l.shelves;
  same : l.place + first_place (is_shelf l.terms l.kind l.n) l.rest ≡ first_place (is_shelf l.terms l.kind l.n) l.shelves;
}

abbrev pub decreases-loop-shelf : goal.decreases-loop-shelf
decreases-loop-shelf l = length l.rest
