use Rattle.std.proofs.Common.{◌≡◌, fold}
use Rattle.std.specs.Vec.Iter.{into_iter_items}
use Rattle.sc_eval.specs.Collections.{with_field, fields_of}
use Rattle.sc_eval.proofs.records.map_of.Given as goal

abbrev pub invariant-loop-name : goal.invariant-loop-name
invariant-loop-name l = fold with_field l.map.entries (into_iter_items l.name-iterator) ≡ fields_of l.fn.pairs.items
