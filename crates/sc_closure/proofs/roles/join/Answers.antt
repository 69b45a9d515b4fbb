use Rattle.std.proofs.lemmas.Result.{on_ok_weaker}
use Rattle.sc_closure.proofs.GroupLaws.{joins_at, joins_new}
use Rattle.sc_closure.proofs.roles.join.Goals as goal

pub returns-in-Some : goal.returns-in-Some
returns-in-Some c = on_ok_weaker c.put_into.result (joins_at _ c.args.groups.now.items _ _ c.requires.term_in _ c.is_value-value.ensures c.in-Some.place (rw c.deref.ensures.value at c.in-Some.ensures.within) (rw c.deref.ensures.value at c.in-Some.ensures.alike)) c.put_into.ensures

pub returns-in-None : goal.returns-in-None
returns-in-None c = on_ok_weaker c.add_group.result (joins_new _ _ _ _ c.requires.term_in _ c.is_value-value.ensures) c.add_group.ensures
