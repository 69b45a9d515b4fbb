use Rattle.sc_values.proofs.SetLaws.{one_set}
use Rattle.sc_values.proofs.sets.set_laws.Goals as goal

pub returns : goal.returns
returns c = one_set
