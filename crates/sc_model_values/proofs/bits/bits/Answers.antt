use Rattle.std.proofs.Common.{ℕ}
use Rattle.sc_model_values.specs.Models.{truth_in}
use Rattle.sc_model_laws.specs.Assignments.{lit}
use Rattle.sc_terms.specs.Folds.{bit_term}
use Rattle.sc_terms.specs.Tables.{tree}
use Rattle.sc_model_values.proofs.BitLaws.{no_bit, next_bit}
use Rattle.sc_model_values.proofs.bits.bits.Goals as goal

pub loop-place-init : goal.loop-place-init
loop-place-init c = no_bit (λ (i : ℕ). lit (truth_in c.args.problem.now c.args.m.now) (bit_term (tree c.args.problem.now.nodes c.args.term) i)) c.new-bits.result c.new-bits.ensures

pub loop-place-preserved : goal.loop-place-preserved
loop-place-preserved c =
    next_bit (λ (i : ℕ). lit (truth_in c.args.problem.now c.args.m.now) (bit_term (tree c.args.problem.now.nodes c.args.term) i)) c.loop-place.place c.loop-place.bits c.push.new.self c.bit.result
    c.in_ok-push.ensures.ok c.loop-place.invariant c.bit.ensures
