use Rattle.std.proofs.Common.{length, map}
use Rattle.sc_terms.specs.Tables.{tree}
use Rattle.sc_model_values.specs.Models.{truth_in}
use Rattle.sc_model_names.specs.Numbers.{AreIn}
use Rattle.sc_model_names.specs.Tables.{AreEntered}
use Rattle.sc_model_names.proofs.table.table_of.Given as goal

abbrev pub invariant-loop-x : goal.invariant-loop-x
invariant-loop-x l = record {
  within : AreIn l.problem.nodes l.rest;
  so_far : AreEntered (truth_in l.problem l.m) l.patterns l.wanted (map (tree l.problem.nodes) l.fn.strings) (map (tree l.problem.nodes) l.rest) l.table;
}

abbrev pub decreases-loop-x : goal.decreases-loop-x
decreases-loop-x l = length l.rest
