use Rattle.std.proofs.Common.{◌∙◌, ap}
use Rattle.sc_terms.specs.Values.{fields_seen}
use Rattle.sc_values.specs.declared.value.Value.{Value, out-Value}
use Rattle.sc_model_worlds.proofs.values.record_at.Goals as goal

pub returns : goal.returns
returns c = c.record_of.ensures ∙ ap (λ (x : Value). fields_seen (out-Value x)) c.in_ok-value.ensures
