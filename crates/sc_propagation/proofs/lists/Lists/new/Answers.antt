use Rattle.sc_propagation.proofs.ListedLaws.{lists-empty}
use Rattle.sc_propagation.proofs.lists.Lists.new.Goals as goal

pub returns : goal.returns
returns c = lists-empty c.args.cells (record { atoms = c.in_ok-empty_lists.field-0; negations = c.in_ok-empty_lists-2.field-0 }) c.in_ok-empty_lists.ensures c.in_ok-empty_lists-2.ensures
