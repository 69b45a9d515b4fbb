use Rattle.std.proofs.Common.{◌≡◌, length}
use Rattle.sc_terms.specs.Tables.{tree}
use Rattle.sc_model_values.specs.Models.{truth_in}
use Rattle.sc_model_laws.specs.Names.{are_equal, name_in}
use Rattle.sc_model_names.specs.Numbers.{HaveTerms, named_terms}
use Rattle.sc_model_names.proofs.names.name_in.Given as goal

abbrev pub invariant-loop-entry : goal.invariant-loop-entry
invariant-loop-entry l = record {
  within : HaveTerms l.problem.nodes l.rest;
  left : name_in (are_equal (truth_in l.problem l.m)) (named_terms l.problem.nodes l.rest) (tree l.problem.nodes l.x)
      ≡ name_in (are_equal (truth_in l.problem l.m)) (named_terms l.problem.nodes l.fn.entries) (tree l.problem.nodes l.x);
}

abbrev pub decreases-loop-entry : goal.decreases-loop-entry
decreases-loop-entry l = length l.rest
