use Rattle.std.proofs.Common.{sym}
use Rattle.sc_logs.proofs.NumberLaws.{value_reads, form_none}
use Rattle.sc_logs.proofs.numbers.number_of.Goals as goal

pub returns-then-has_number_form : goal.returns-then-has_number_form
returns-then-has_number_form c = value_reads c.args.word.now c.value_of.result c.if-has_number_form.ensures c.value_of.ensures

pub returns-else-has_number_form : goal.returns-else-has_number_form
returns-else-has_number_form c = form_none c.args.word.now (sym c.if-has_number_form.ensures)
