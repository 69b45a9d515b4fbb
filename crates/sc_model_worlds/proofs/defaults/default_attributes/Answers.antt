use Rattle.std.proofs.Common.{◌∙◌, ap, sym}
use Rattle.std.specs.Option.{option_copied}
use Rattle.sc_terms.specs.Values.{fields_seen}
use Rattle.sc_term_laws.proofs.SortsLawful.{attrs_lawful}
use Rattle.sc_values.specs.declared.value.Value.{Value, out-Value}
use Rattle.sc_model_worlds.proofs.ValueLaws.{default_there, default_nowhere}
use Rattle.sc_model_worlds.proofs.defaults.default_attributes.Goals as goal

pub default_value-requires : goal.default_value-requires
default_value-requires c =
    attrs_lawful c.args.schema.now c.laws.ensures.lawful c.args.name.now c.in-Some.ty.now (sym c.attrs_of.ensures ∙ ap option_copied c.in-Some.is)

pub returns-in_ok-value-in-Some : goal.returns-in_ok-value-in-Some
returns-in_ok-value-in-Some c =
    c.record_of.ensures ∙ ap (λ (x : Value). fields_seen (out-Value x)) c.in_ok-value-in-Some.ensures
    ∙ default_there c.args.schema.now c.args.name.now c.in-Some.ty.now (sym c.attrs_of.ensures ∙ ap option_copied c.in-Some.is)

pub returns-in-None : goal.returns-in-None
returns-in-None c = c.new.ensures ∙ default_nowhere c.args.schema.now c.args.name.now (sym c.attrs_of.ensures ∙ ap option_copied c.in-None.is)
