use Rattle.std.proofs.Common.{◌≢◌}
use Rattle.sc_graphs.specs.declared.path.Mark.TheVariants.{New}
use Rattle.sc_graphs.specs.Paths.{Stands, Goes, mark_in, steps_left}
use Rattle.sc_graphs.proofs.path.Search.follow.Given as goal

abbrev pub invariant-loop-part : goal.invariant-loop-part
invariant-loop-part l = record {
  stands : Stands l.graph l.self;
  goes : Goes l.fn.self.marks.items l.self.marks.items;
  met : mark_in l.self.marks.items l.start ≢ New;
}

abbrev pub decreases-loop-part : goal.decreases-loop-part
decreases-loop-part l = steps_left l.self.marks.items l.self.parts.items l.self.waiting.items
