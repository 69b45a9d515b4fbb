use Rattle.sc_values.proofs.RecLaws.{one_rec, one_duplicate, no_repeat}
use Rattle.sc_values.proofs.records.rec_laws.Goals as goal

pub returns-clause-one_record : goal.returns-clause-one_record
returns-clause-one_record c = one_rec

pub returns-clause-one_duplicate : goal.returns-clause-one_duplicate
returns-clause-one_duplicate c = one_duplicate

pub returns-clause-distinct : goal.returns-clause-distinct
returns-clause-distinct c = no_repeat
