use Rattle.std.proofs.Common.{◌≡◌, ◌++◌, length, map}
use Rattle.sc_terms.specs.Tables.{tree}
use Rattle.sc_model_names.specs.Numbers.{AreIn}
use Rattle.sc_model_names.specs.Ids.{entities}
use Rattle.sc_model_names.proofs.ids.entities_among.Given as goal

abbrev pub invariant-loop-n : goal.invariant-loop-n
invariant-loop-n l = record {
  within : AreIn l.problem.nodes l.rest;
  kept : AreIn l.problem.nodes l.entities;
  left : map (tree l.problem.nodes) l.entities ++ entities (map (tree l.problem.nodes) l.rest) ≡ entities (map (tree l.problem.nodes) l.fn.numbers);
}

abbrev pub decreases-loop-n : goal.decreases-loop-n
decreases-loop-n l = length l.rest
