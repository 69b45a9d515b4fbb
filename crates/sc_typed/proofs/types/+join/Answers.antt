use Rattle.sc_typed.proofs.JoinLaws.{join_Record}
use Rattle.sc_typed.proofs.types.+join.Goals as goal

pub join-returns-in-Record : goal.join-returns-in-Record
join-returns-in-Record t c = rw (c.in-Record.is, join_Record c.in-Record.fields c.args.b.now, ← c.as_slice.ensures) c.join_record.ensures
