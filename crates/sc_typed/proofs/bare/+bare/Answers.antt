use Rattle.sc_typed.proofs.BareLaws.{bare_Record}
use Rattle.sc_typed.proofs.bare.+bare.Goals as goal

pub bare-returns-in-Record : goal.bare-returns-in-Record
bare-returns-in-Record t c = rw (c.in-Record.is, bare_Record c.in-Record.field-0 c.in-Record.fields) c.bare_record.ensures
