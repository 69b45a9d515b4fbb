use Rattle.std.proofs.Common.{◌≡◌, [], length, map}
use Rattle.sc_terms.specs.Tables.{tree}
use Rattle.sc_model_values.specs.Models.{truth_in}
use Rattle.sc_model_names.specs.Numbers.{AreIn}
use Rattle.sc_model_names.specs.Classes.{classes}
use Rattle.sc_model_names.proofs.classes.classes_of.Given as goal

abbrev pub invariant-loop-x : goal.invariant-loop-x
invariant-loop-x l = record {
  within : AreIn l.problem.nodes l.rest;
  kept : AreIn l.problem.nodes l.found;
  left : classes (truth_in l.problem l.m) (map (tree l.problem.nodes) l.found) (map (tree l.problem.nodes) l.rest)
      ≡ classes (truth_in l.problem l.m) [] (map (tree l.problem.nodes) l.fn.terms);
}

abbrev pub decreases-loop-x : goal.decreases-loop-x
decreases-loop-x l = length l.rest
