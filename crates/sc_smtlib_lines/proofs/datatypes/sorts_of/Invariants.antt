use Rattle.std.proofs.Common.{◌≡◌, ◌++◌}
use Rattle.std.specs.Vec.Iter.{into_iter_items}
use Rattle.sc_smtlib_lines.specs.Gaining.{sorts_in}
use Rattle.sc_smtlib_lines.proofs.datatypes.sorts_of.Given as goal

abbrev pub invariant-loop-layered : goal.invariant-loop-layered
invariant-loop-layered l = record {
  goes_on : (goal.iterator-loop-layered).can_next l.layered-iterator;
  ends : (goal.iterator-loop-layered).is_finite l.layered-iterator;
  so_far : l.sorts ++ sorts_in (into_iter_items l.layered-iterator) ≡ sorts_in l.fn.layers;
}
