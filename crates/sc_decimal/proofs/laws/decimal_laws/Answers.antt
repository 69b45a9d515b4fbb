use Rattle.sc_decimal.proofs.ValueLaws.{decimal_of_decides}
use Rattle.sc_decimal.proofs.laws.decimal_laws.Goals as goal

pub returns : goal.returns
returns c = decimal_of_decides
