use Rattle.sc_graphs.proofs.FoundLaws.{AllNew}
use Rattle.sc_graphs.proofs.path.Search.new.Given as goal

abbrev pub invariant-loop : goal.invariant-loop
invariant-loop l = AllNew l.marks.items l.index
