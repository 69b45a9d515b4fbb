use Rattle.std.proofs.Common.{◌≡◌, ◌∙◌, IfOk, sym, subst}
use Rattle.sc_values.specs.Records.{Fields}
use Rattle.sc_world.proofs.DefaultLaws.{fields_Record, no_fields}
use Rattle.sc_world.proofs.default_entity.fields_in.Goals as goal

pub returns-in-Record : goal.returns-in-Record
returns-in-Record c =
    subst (λ (fs : Fields). IfOk c.default_fields.result (λ r. r ≡ fs)) (sym (fields_Record c.args.s.now c.args.ty.now c.in-Record.attributes c.in-Record.is)) c.default_fields.ensures

pub returns-in_default : goal.returns-in_default
returns-in_default c = c.new.ensures ∙ no_fields c.args.s.now c.args.ty.now c.in_default.not-Record
