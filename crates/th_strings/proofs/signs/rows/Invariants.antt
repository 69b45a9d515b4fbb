use Rattle.std.proofs.Common.{◌≡◌, ◌++◌, length, map}
use Rattle.sc_footprint.specs.Problems.{term_of}
use Rattle.th_strings.specs.Known.{row_of}
use Rattle.th_strings.proofs.signs.rows.Given as goal

abbrev pub invariant-loop-n : goal.invariant-loop-n
invariant-loop-n l = l.rows.items ++ map (λ n. row_of l.problem l.m l.patterns (term_of l.problem n)) l.rest ≡ map (λ n. row_of l.problem l.m l.patterns (term_of l.problem n)) l.fn.numbers

abbrev pub decreases-loop-n : goal.decreases-loop-n
decreases-loop-n l = length l.rest
