use Rattle.std.proofs.Common.{rules}
use Rattle.sc_falsified.specs.Classes.{moved}
use Rattle.sc_falsified.proofs.ListLaws.{written}
use Rattle.sc_falsified.proofs.classes.move_all.Goals as goal

pub loop-label-preserved : goal.loop-label-preserved
loop-label-preserved c =
    written (moved c.args.from c.args.to) c.args.labels.now.items c.loop-label.label-items c.loop-label.label-index c.moved.result c.loop-label.invariant (search rules) c.moved.ensures
