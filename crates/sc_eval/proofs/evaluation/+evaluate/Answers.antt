use Rattle.sc_eval.specs.ConstructLaws.{eval_Record}
use Rattle.sc_eval.proofs.evaluation.+evaluate.Goals as goal

pub evaluate-returns-in-Record : goal.evaluate-returns-in-Record
evaluate-returns-in-Record t c =
    rw (c.in-Record.is, eval_Record c.in-Record.field-0 c.in-Record.fields c.args.world.now, ← c.as_slice-in-Record.ensures) c.make_record.ensures
