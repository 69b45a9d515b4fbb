use Rattle.sc_propagation.proofs.WatchLaws.{unset}
use Rattle.sc_propagation.proofs.watches.Watches.new.Goals as goal

pub returns : goal.returns
returns c = unset c.args.cells c.args.count (record { pairs = c.in_ok-no_pairs.field-0; lists = c.in_ok-new.field-0 }) c.in_ok-no_pairs.ensures c.in_ok-new.ensures
