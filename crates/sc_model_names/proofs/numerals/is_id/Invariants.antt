use Rattle.std.proofs.Common.{◌≡◌, length}
use Rattle.sc_terms.specs.Tables.{tree}
use Rattle.sc_model_names.specs.Numbers.{HaveTerms, named_terms}
use Rattle.sc_model_names.specs.Ids.{is_id}
use Rattle.sc_model_names.proofs.numerals.is_id.Given as goal

abbrev pub invariant-loop-entry : goal.invariant-loop-entry
invariant-loop-entry l = record {
  within : HaveTerms l.problem.nodes l.rest;
  left : is_id (named_terms l.problem.nodes l.rest) (tree l.problem.nodes l.x) l.text ≡ is_id (named_terms l.problem.nodes l.fn.entries) (tree l.problem.nodes l.x) l.text;
}

abbrev pub decreases-loop-entry : goal.decreases-loop-entry
decreases-loop-entry l = length l.rest
