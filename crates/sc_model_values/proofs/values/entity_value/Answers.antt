use Rattle.std.proofs.Common.{ap}
use Rattle.sc_values.specs.declared.value.Value.TheVariants as value
use Rattle.sc_model_values.proofs.values.entity_value.Goals as goal

pub returns : goal.returns
returns c m = ap value.Entity (c.in_ok-uid_of.ensures m)
