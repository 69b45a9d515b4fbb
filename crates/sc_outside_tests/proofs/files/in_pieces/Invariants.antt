use Rattle.std.specs.Prelude.{IsSome}
use Rattle.sc_outside_tests.proofs.files.in_pieces.Given as goal

abbrev pub invariant-loop : goal.invariant-loop
invariant-loop g l = IsSome (g.F.Files.left l.files)
