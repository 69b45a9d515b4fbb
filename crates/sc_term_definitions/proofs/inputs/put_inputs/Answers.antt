use Rattle.std.proofs.lemmas.Result.{on_ok_weaker}
use Rattle.sc_term_definitions.proofs.MakingLaws.{puts_inputs}
use Rattle.sc_term_definitions.proofs.inputs.put_inputs.Goals as goal

pub put_row-requires-clause-places : goal.put_row-requires-clause-places
put_row-requires-clause-places c = c.row_at-row.ensures.places c.requires.term

pub returns-clause-ok : goal.returns-clause-ok
returns-clause-ok c = on_ok_weaker c.put_row.result (puts_inputs _ _ _ _ _ _ c.row_at-row.ensures.defines) c.put_row.ensures.ok
