use Rattle.std.proofs.Common.{◌∙◌}
use Rattle.sc_model_worlds.proofs.ValueLaws.{of_record, of_other}
use Rattle.sc_model_worlds.proofs.values.record_of.Goals as goal

pub returns-in-Record : goal.returns-in-Record
returns-in-Record c = of_record c.args.value c.in-Record.fields c.in-Record.is

pub returns : goal.returns
returns c = c.new.ensures ∙ of_other c.args.value c.in_default.not-Record
