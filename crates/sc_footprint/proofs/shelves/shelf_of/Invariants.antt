use Rattle.std.proofs.Common.{◌≡◌, ◌<◌, length}
use Rattle.std.specs.List.{AllByRecursion}
use Rattle.sc_footprint.specs.declared.shelves.Shelf.{Shelf}
use Rattle.sc_footprint.specs.Indices.{terms_at}
use Rattle.sc_footprint.proofs.shelves.shelf_of.Given as goal

abbrev pub invariant-loop-shelf : goal.invariant-loop-shelf
invariant-loop-shelf l = record {
  keys_in : AllByRecursion (λ (s : Shelf). s.key < length l.terms) l.rest;
  same : terms_at l.terms l.rest l.kind l.n ≡ terms_at l.terms l.shelves l.kind l.n;
}

abbrev pub decreases-loop-shelf : goal.decreases-loop-shelf
decreases-loop-shelf l = length l.rest
