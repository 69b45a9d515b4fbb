use Rattle.std.proofs.Common.{◌≡◌, IfSome, map, false}
use Rattle.std.specs.List.{Contains}
use Rattle.sc_clauses.specs.Clauses.{negation}
use Rattle.sc_refutations.specs.Arenas.{lit_of}
use Rattle.sc_propagation.specs.Trails.{true_before}
use Rattle.sc_propagation.proofs.trail.Trail.open_pair.Given as goal

abbrev pub invariant-loop-code : goal.invariant-loop-code
invariant-loop-code l = IfSome l.open (λ u. Contains (map lit_of l.clause) u × (true_before l.self.cells.items l.place (negation u) ≡ false))
