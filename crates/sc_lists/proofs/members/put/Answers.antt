use Rattle.std.proofs.Common.{sym, ap, ◌∙◌}
use Rattle.sc_lists.specs.Ordered.{is_in}
use Rattle.sc_lists.proofs.OrderedLaws.{insert_key-stands, is_in-insert_key, put_new, put_ascending, put_one_more}
use Rattle.sc_lists.proofs.members.put.Goals as goal

-- a member is level with the value, and the list stays
pub returns-in-Ok-clause-ok : goal.returns-in-Ok-clause-ok
returns-in-Ok-clause-ok g c = sym (insert_key-stands g.met.K.Ord.total c.args.members.now c.args.x c.in-Ok.field-0 c.requires (rw c.as_slice.ensures at c.in-Ok.ensures.found))

pub returns-in-Ok-clause-one_more : goal.returns-in-Ok-clause-one_more
returns-in-Ok-clause-one_more g c y = ap (is_in g.K.Ord.cmp y) (returns-in-Ok-clause-ok g c) ∙ is_in-insert_key g.met.K.Ord.total c.args.members.now c.args.x y

pub returns-in-Err-clause-ok : goal.returns-in-Err-clause-ok
returns-in-Err-clause-ok g c = put_new g.met.K.Ord.total c.insert.result c.args.members.now c.insert.new.self c.args.x c.in-Err.at (rw c.as_slice.ensures at c.in-Err.ensures.absent) c.insert.ensures.ok

pub returns-in-Err-clause-ascending : goal.returns-in-Err-clause-ascending
returns-in-Err-clause-ascending g c = put_ascending g.met.K.Ord.total c.insert.result c.args.members.now c.insert.new.self c.args.x c.requires (returns-in-Err-clause-ok g c) c.insert.ensures.err

pub returns-in-Err-clause-one_more : goal.returns-in-Err-clause-one_more
returns-in-Err-clause-one_more g c = put_one_more g.met.K.Ord.total c.insert.result c.args.members.now c.insert.new.self c.args.x (returns-in-Err-clause-ok g c)
