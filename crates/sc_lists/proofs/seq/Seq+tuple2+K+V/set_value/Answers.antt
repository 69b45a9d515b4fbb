use Rattle.sc_lists.proofs.SeqLaws.{value_set}
use Rattle.sc_lists.proofs.seq.Seq+tuple2+K+V.set_value.Goals as goal

pub returns : goal.returns
returns g c = value_set c.self.inside.items.items c.args.self.now c.args.at c.args.value c.index_mut.result.now c.self.view_is c.requires c.index_mut.ensures.value
