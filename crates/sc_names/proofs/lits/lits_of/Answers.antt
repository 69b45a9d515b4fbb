use Rattle.sc_names.proofs.LitsLaws.{same_list}
use Rattle.sc_names.proofs.lits.lits_of.Goals as goal

pub returns : goal.returns
returns c = same_list _ _ _ (rw c.new-list.ensures.items at c.in_ok-put_all.ensures) c.set_of.ensures
