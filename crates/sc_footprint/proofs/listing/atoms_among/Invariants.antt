use Rattle.std.proofs.Common.{◌≡◌, ◌<◌, [], length}
use Rattle.std.specs.List.{AllByRecursion}
use Rattle.sc_closure.specs.Following.{put_new, atoms_of}
use Rattle.sc_footprint.proofs.listing.atoms_among.Given as goal

abbrev pub invariant-loop-n : goal.invariant-loop-n
invariant-loop-n l = record {
  within : AllByRecursion (λ n. n < length l.terms) l.n-iterator;
  listed : put_new l.atoms.keys (atoms_of l.terms l.n-iterator) ≡ put_new [] (atoms_of l.terms l.closed.keys);
}
