use Rattle.std.proofs.Common.{ap, sym, ◌∙◌}
use Rattle.sc_term_definitions.specs.Definitions.{bits_in, bit_count}
use Rattle.sc_sorts.proofs.OutLaws.{out_Decimal}
use Rattle.sc_values.specs.declared.value.Value.TheVariants as value
use Rattle.sc_model_values.proofs.BitLaws.{read_back}
use Rattle.sc_model_values.proofs.values.decimal_value.Goals as goal

pub number-requires-clause-bits : goal.number-requires-clause-bits
number-requires-clause-bits c = sym (ap bit_count c.requires.sorted ∙ ap bits_in out_Decimal)

pub returns : goal.returns
returns c = ap value.Decimal (c.from_ten_thousandths.ensures ∙ read_back _ _ c.in_ok-number.ensures ∙ c.in_ok-number.ensures)
