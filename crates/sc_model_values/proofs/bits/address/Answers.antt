use Rattle.std.proofs.Common.{ℕ, ap, sym, ◌∙◌}
use Rattle.sc_term_definitions.specs.Definitions.{bits_in, bit_count}
use Rattle.sc_model_values.specs.Models.{truth_in}
use Rattle.sc_model_laws.specs.Assignments.{lit}
use Rattle.sc_sorts.proofs.OutLaws.{out_Ip}
use Rattle.sc_terms.specs.Folds.{bit_term}
use Rattle.sc_terms.specs.Tables.{tree}
use Rattle.sc_model_values.proofs.BitLaws.{all_bits, each_bit, ip_only}
use Rattle.sc_model_values.proofs.bits.address.Goals as goal

pub bits-requires-clause-count : goal.bits-requires-clause-count
bits-requires-clause-count c = sym (ap bit_count c.requires.sorted ∙ ap bits_in out_Ip)

pub ip_from_bits-requires : goal.ip_from_bits-requires
ip_from_bits-requires c =
    all_bits (λ (i : ℕ). lit (truth_in c.args.problem.now c.args.m.now) (bit_term (tree c.args.problem.now.nodes c.args.term) i)) 257 c.as_slice.result.now (c.as_slice.ensures ∙ c.in_ok-bits.ensures)

pub returns : goal.returns
returns c =
    c.ip_from_bits.ensures
    ∙ ip_only _ _
    (each_bit (λ (i : ℕ). lit (truth_in c.args.problem.now c.args.m.now) (bit_term (tree c.args.problem.now.nodes c.args.term) i)) 257 c.as_slice.result.now (c.as_slice.ensures ∙ c.in_ok-bits.ensures))
