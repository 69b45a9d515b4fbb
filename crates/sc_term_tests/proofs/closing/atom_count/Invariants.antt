use Rattle.std.proofs.Common.{◌-◌, ◌^◌}
use Rattle.sc_term_tests.proofs.closing.atom_count.Given as goal

abbrev pub decreases-loop-n : goal.decreases-loop-n
decreases-loop-n l = 2 ^ 64 - l.place
