use Rattle.std.proofs.Common.{◌<◌, length}
use Rattle.std.specs.List.{AllByRecursion}
use Rattle.sc_footprint.specs.Shelving.{AreShelving}
use Rattle.sc_footprint.proofs.shelves.shelves_of.Given as goal

abbrev pub invariant-loop-n : goal.invariant-loop-n
invariant-loop-n l = record {
  within : AllByRecursion (λ n. n < length l.terms) l.n-iterator;
  so_far : AreShelving l.terms l.closed.keys l.n-iterator l.shelves.items;
}
