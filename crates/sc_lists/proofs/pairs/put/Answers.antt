use Rattle.sc_lists.proofs.OrderedLaws.{put_stands, put_belongs, put_keys, put_here, put_others, ascending-insert_entry, value_at-insert_entry, value_at-insert_entry_other}
use Rattle.sc_lists.proofs.pairs.put.Goals as goal

-- the key stands there already
pub returns-in-Ok-clause-ok : goal.returns-in-Ok-clause-ok
returns-in-Ok-clause-ok g c = put_stands g.met.K.Ord.total c.args.pairs.now c.set_value.new.self c.args.key c.args.value c.in-Ok.at c.requires (rw c.as_slice.ensures at c.in-Ok.ensures.found) c.set_value.ensures

pub returns-in-Ok-clause-ascending : goal.returns-in-Ok-clause-ascending
returns-in-Ok-clause-ascending g c = rw (returns-in-Ok-clause-ok g c) (ascending-insert_entry g.met.K.Ord.total c.args.pairs.now c.args.key c.args.value c.requires)

pub returns-in-Ok-clause-here : goal.returns-in-Ok-clause-here
returns-in-Ok-clause-here g c = rw (returns-in-Ok-clause-ok g c) (value_at-insert_entry g.met.K.Ord.total c.args.pairs.now c.args.key c.args.value)

pub returns-in-Ok-clause-others : goal.returns-in-Ok-clause-others
returns-in-Ok-clause-others g c k apart = rw (returns-in-Ok-clause-ok g c) (value_at-insert_entry_other g.met.K.Ord.total c.args.pairs.now c.args.key c.args.value k apart)

-- the pair is new
pub returns-in-Err-clause-ok : goal.returns-in-Err-clause-ok
returns-in-Err-clause-ok g c = put_belongs g.met.K.Ord.total c.insert.result c.args.pairs.now c.insert.new.self c.args.key c.args.value c.in-Err.at (rw c.as_slice.ensures at c.in-Err.ensures.absent) c.insert.ensures.ok

pub returns-in-Err-clause-ascending : goal.returns-in-Err-clause-ascending
returns-in-Err-clause-ascending g c = put_keys g.met.K.Ord.total c.insert.result c.args.pairs.now c.insert.new.self c.args.key c.args.value c.requires (returns-in-Err-clause-ok g c) c.insert.ensures.err

pub returns-in-Err-clause-here : goal.returns-in-Err-clause-here
returns-in-Err-clause-here g c = put_here g.met.K.Ord.total c.insert.result c.args.pairs.now c.insert.new.self c.args.key c.args.value (returns-in-Err-clause-ok g c)

pub returns-in-Err-clause-others : goal.returns-in-Err-clause-others
returns-in-Err-clause-others g c = put_others g.met.K.Ord.total c.insert.result c.args.pairs.now c.insert.new.self c.args.key c.args.value (returns-in-Err-clause-ok g c)
