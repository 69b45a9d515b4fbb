use Rattle.std.proofs.Common.{◌≡◌, ◌≤◌}
use Rattle.sc_graphs.proofs.LeaveLaws.{AreLeft}
use Rattle.sc_graphs.proofs.path.Search.leave.Given as goal

abbrev pub invariant-loop-place : goal.invariant-loop-place
invariant-loop-place l = record {
  from : l.part.first ≤ l.place;
  left : AreLeft l.initial.self.marks.items l.self.marks.items l.part.first l.place l.part.cyclic;
  path : l.self.path ≡ l.initial.self.path;
  parts : l.self.parts ≡ l.initial.self.parts;
  waiting : l.self.waiting ≡ l.initial.self.waiting;
}
