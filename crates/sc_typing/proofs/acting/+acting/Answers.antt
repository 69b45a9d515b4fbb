use Rattle.sc_typing.proofs.ActingLaws.{acting_Record}
use Rattle.sc_typing.proofs.acting.+acting.Goals as goal

pub acting-returns-in-Record : goal.acting-returns-in-Record
acting-returns-in-Record t c = rw (c.in-Record.is, acting_Record c.args.action.now c.in-Record.place c.in-Record.fields) c.acting_record.ensures
