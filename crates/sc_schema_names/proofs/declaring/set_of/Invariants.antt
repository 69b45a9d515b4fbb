use Rattle.std.proofs.Common.{◌≡◌, ◌||◌}
use Rattle.std.specs.Vec.Iter.{into_iter_items}
use Rattle.sc_lists.specs.Ordered.{is_in}
use Rattle.sc_schema_names.proofs.declaring.set_of.Given as goal

abbrev pub invariant-loop-key : goal.invariant-loop-key
invariant-loop-key g l = record {
  goes_on : (goal.iterator-loop-key g).can_next l.key-iterator;
  ends : (goal.iterator-loop-key g).is_finite l.key-iterator;
  to_come : (k : g.row.K.Denot) → (is_in g.K.Ord.cmp k l.set.keys || is_in g.K.Ord.cmp k (into_iter_items l.key-iterator)) ≡ is_in g.K.Ord.cmp k l.fn.keys;
}
