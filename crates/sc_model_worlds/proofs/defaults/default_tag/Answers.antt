use Rattle.std.proofs.Common.{◌≡◌, ◌∙◌, IfOk, ap, sym, subst}
use Rattle.std.specs.Option.{option_copied}
use Rattle.sc_model_world_laws.specs.Rebuilt.{tag_default}
use Rattle.sc_term_laws.proofs.SortsLawful.{tags_lawful}
use Rattle.sc_values.specs.declared.value.Value.{Value}
use Rattle.sc_values.specs.declared.value.Value.TheVariants.{Record}
use Rattle.sc_model_worlds.proofs.defaults.default_tag.Goals as goal

pub default_value-requires : goal.default_value-requires
default_value-requires c =
    tags_lawful c.args.schema.now c.laws.ensures.lawful c.args.name.now c.in-Some.ty.now (sym c.tags_of.ensures ∙ ap option_copied c.in-Some.is)

pub returns-in-Some : goal.returns-in-Some
returns-in-Some c =
    subst (λ (z : Value). IfOk c.default_value.result (λ x. x ≡ z))
    (ap (tag_default c.args.schema.now) (sym (ap option_copied c.in-Some.is) ∙ c.tags_of.ensures)) c.default_value.ensures

pub returns-in-None : goal.returns-in-None
returns-in-None c = ap Record c.new.ensures ∙ ap (tag_default c.args.schema.now) (sym (ap option_copied c.in-None.is) ∙ c.tags_of.ensures)
