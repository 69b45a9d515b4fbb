use Rattle.std.proofs.Common.{◌≡◌, drop}
use Rattle.sc_terms.specs.Tables.{tree}
use Rattle.sc_model_names.specs.Numbers.{named_terms}
use Rattle.sc_model_names.specs.Ids.{least_id}
use Rattle.sc_model_names.proofs.numerals.least_id.Given as goal

abbrev pub invariant-loop-entry : goal.invariant-loop-entry
invariant-loop-entry l = record {
  counted : l.number ≡ l._entry-index;
  left : least_id (named_terms l.problem.nodes l.entries) (tree l.problem.nodes l.x) l.number (named_terms l.problem.nodes (drop l._entry-index l.entries))
      ≡ least_id (named_terms l.problem.nodes l.entries) (tree l.problem.nodes l.x) 0 (named_terms l.problem.nodes l.entries);
}
