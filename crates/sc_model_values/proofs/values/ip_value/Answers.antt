use Rattle.std.proofs.Common.{ap}
use Rattle.sc_values.specs.declared.value.Value.TheVariants as value
use Rattle.sc_model_values.proofs.values.ip_value.Goals as goal

pub returns : goal.returns
returns c = ap value.Ip c.in_ok-address.ensures
