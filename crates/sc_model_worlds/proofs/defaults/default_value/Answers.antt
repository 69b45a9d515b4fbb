use Rattle.std.proofs.Common.{◌≡◌, ◌∙◌, IfOk, ap, subst}
use Rattle.sc_sorts.specs.Defaults.{default_of}
use Rattle.sc_values.specs.declared.value.Value.{Value}
use Rattle.sc_model_worlds.proofs.defaults.default_value.Goals as goal

pub returns : goal.returns
returns c =
    subst (λ (z : Value). IfOk c.default_of.result (λ x. x ≡ z))
    (ap default_of c.in_ok-sort.ensures ∙ c.default_laws.ensures c.args.schema.now c.args.ty.now c.laws.ensures.lawful c.requires) c.default_of.ensures
