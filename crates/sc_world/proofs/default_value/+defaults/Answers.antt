use Rattle.std.proofs.Common.{◌∙◌, ap, sym}
use Rattle.sc_values.specs.declared.value.Value.TheVariants.{Record}
use Rattle.sc_world.specs.Defaults.{default_value}
use Rattle.sc_world.proofs.DefaultLaws.{default_Record}
use Rattle.sc_world.proofs.default_value.+defaults.Goals as goal

pub default_value-returns-in_ok-default_fields-in-Record : goal.default_value-returns-in_ok-default_fields-in-Record
default_value-returns-in_ok-default_fields-in-Record t c =
    let s = c.args.s.now in
    ap Record c.in_ok-default_fields-in-Record.ensures ∙ sym (default_Record s c.in-Record.attributes) ∙ ap (default_value s) (sym c.in-Record.is)
