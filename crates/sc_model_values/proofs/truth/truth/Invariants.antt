use Rattle.std.proofs.Common.{◌≡◌, ◌<◌, length}
use Rattle.sc_model_values.specs.Models.{truth_in}
use Rattle.sc_model_laws.specs.Assignments.{lit}
use Rattle.sc_terms.specs.Tables.{tree}
use Rattle.sc_model_values.proofs.TruthLaws.{turned}
use Rattle.sc_model_values.proofs.truth.truth.Given as goal

abbrev pub invariant-loop-part : goal.invariant-loop-part
invariant-loop-part l = record {
  within : l.at < length l.problem.nodes;
  same : lit (truth_in l.problem l.m) (tree l.problem.nodes l.term) ≡ turned l.negated (lit (truth_in l.problem l.m) (tree l.problem.nodes l.at));
}

abbrev pub decreases-loop-part : goal.decreases-loop-part
decreases-loop-part l = l.at
