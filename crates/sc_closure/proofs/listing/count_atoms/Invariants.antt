use Rattle.std.proofs.Common.{◌≡◌, ◌+◌, ◌-◌, ◌^◌, length, drop}
use Rattle.sc_closure.specs.Following.{atoms_of}
use Rattle.sc_closure.proofs.listing.count_atoms.Given as goal

abbrev pub invariant-loop-n : goal.invariant-loop-n
invariant-loop-n l = l.count + length (atoms_of l.terms (drop l.place l.closed.keys)) ≡ length (atoms_of l.terms (drop l.from l.closed.keys))

abbrev pub decreases-loop-n : goal.decreases-loop-n
decreases-loop-n l = 2 ^ 64 - l.place
