use Rattle.std.proofs.Common.{◌≡◌, map}
use Rattle.sc_term_definitions.specs.Definitions.{counted}
use Rattle.sc_model_values.specs.Models.{truth_in}
use Rattle.sc_model_laws.specs.Assignments.{lit}
use Rattle.sc_terms.specs.Folds.{bit_term}
use Rattle.sc_terms.specs.Tables.{tree}
use Rattle.sc_model_values.proofs.bits.bits.Given as goal

abbrev pub invariant-loop-place : goal.invariant-loop-place
invariant-loop-place l = l.bits ≡ map (λ i. lit (truth_in l.problem l.m) (bit_term (tree l.problem.nodes l.term) i)) (counted 0 l.place)
