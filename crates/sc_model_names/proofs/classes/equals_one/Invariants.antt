use Rattle.std.proofs.Common.{◌≡◌, length, map}
use Rattle.std.specs.List.{list_any}
use Rattle.sc_terms.specs.Tables.{tree}
use Rattle.sc_model_values.specs.Models.{truth_in}
use Rattle.sc_model_laws.specs.Names.{are_equal}
use Rattle.sc_model_names.specs.Numbers.{AreIn}
use Rattle.sc_model_names.proofs.classes.equals_one.Given as goal

abbrev pub invariant-loop-y : goal.invariant-loop-y
invariant-loop-y l = record {
  within : AreIn l.problem.nodes l.rest;
  left : list_any (are_equal (truth_in l.problem l.m) (tree l.problem.nodes l.x)) (map (tree l.problem.nodes) l.rest)
      ≡ list_any (are_equal (truth_in l.problem l.m) (tree l.problem.nodes l.x)) (map (tree l.problem.nodes) l.fn.others);
}

abbrev pub decreases-loop-y : goal.decreases-loop-y
decreases-loop-y l = length l.rest
