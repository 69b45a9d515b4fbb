use Rattle.std.proofs.Common.{◌≡◌, length}
use Rattle.sc_terms.specs.Tables.{tree}
use Rattle.sc_model_names.specs.Models.{truth_in}
use Rattle.sc_model_laws.specs.Names.{name_in}
use Rattle.sc_model_names.specs.Ids.{is_same}
use Rattle.sc_model_names.specs.Numbers.{HaveTerms, named_terms}
use Rattle.sc_model_names.proofs.ids.id_in.Given as goal

abbrev pub invariant-loop-entry : goal.invariant-loop-entry
invariant-loop-entry l = record {
  within : HaveTerms l.problem.nodes l.rest;
  left : name_in (is_same (truth_in l.problem l.m)) (named_terms l.problem.nodes l.rest) (tree l.problem.nodes l.x)
      ≡ name_in (is_same (truth_in l.problem l.m)) (named_terms l.problem.nodes l.fn.entries) (tree l.problem.nodes l.x);
}

abbrev pub decreases-loop-entry : goal.decreases-loop-entry
decreases-loop-entry l = length l.rest
