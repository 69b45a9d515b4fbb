use Rattle.std.proofs.Common.{◌≡◌, [], length, map}
use Rattle.sc_terms.specs.Tables.{tree}
use Rattle.sc_model_names.specs.Numbers.{AreIn}
use Rattle.sc_model_names.specs.Patterns.{put_patterns}
use Rattle.sc_model_names.proofs.patterns.patterns_of.Given as goal

abbrev pub invariant-loop-n : goal.invariant-loop-n
invariant-loop-n l = record {
  within : AreIn l.problem.nodes l.rest;
  left : put_patterns l.patterns (map (tree l.problem.nodes) l.rest) ≡ put_patterns [] (map (tree l.problem.nodes) l.fn.numbers);
}

abbrev pub decreases-loop-n : goal.decreases-loop-n
decreases-loop-n l = length l.rest
