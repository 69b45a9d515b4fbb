use Rattle.std.proofs.Common.{◌≡◌, ℕ, w64, SFits, sym, subst, ◌∙◌}
use Rattle.std.proofs.lemmas.Int.{to_z-of_z}
use Rattle.sc_bits.specs.Bits.{of_bits64}
use Rattle.sc_model_values.specs.Models.{truth_in}
use Rattle.sc_model_laws.specs.Assignments.{lit}
use Rattle.sc_terms.specs.Folds.{bit_term}
use Rattle.sc_terms.specs.Tables.{tree}
use Rattle.sc_model_values.proofs.BitLaws.{all_bits, each_bit}
use Rattle.sc_model_values.proofs.bits.number.Goals as goal

pub from_bits-requires : goal.from_bits-requires
from_bits-requires c =
    all_bits (λ (i : ℕ). lit (truth_in c.args.problem.now c.args.m.now) (bit_term (tree c.args.problem.now.nodes c.args.term) i)) 64 c.as_slice.result.now (c.as_slice.ensures ∙ c.in_ok-bits.ensures)

pub returns : goal.returns
returns c =
    let value : c.from_bits.result ≡ of_bits64 (λ (i : ℕ). lit (truth_in c.args.problem.now c.args.m.now) (bit_term (tree c.args.problem.now.nodes c.args.term) i)) =
    c.from_bits.ensures
    ∙ c.integer_laws.ensures.only _ _
    (each_bit (λ (i : ℕ). lit (truth_in c.args.problem.now c.args.m.now) (bit_term (tree c.args.problem.now.nodes c.args.term) i)) 64 c.as_slice.result.now (c.as_slice.ensures ∙ c.in_ok-bits.ensures)) in
    let fits : SFits w64 c.from_bits.result = subst (SFits w64) (sym value) (c.integer_laws.ensures.fits _) in
    to_z-of_z w64 c.from_bits.result fits ∙ value
