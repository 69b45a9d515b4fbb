use Rattle.std.proofs.Common.{◌≡◌, ◌++◌, take}
use Rattle.sc_graphs.proofs.path.Search.enter.Given as goal

abbrev pub invariant-loop-next : goal.invariant-loop-next
invariant-loop-next l = record {
  marks : l.self.marks ≡ l.initial.self.marks;
  path : l.self.path ≡ l.initial.self.path;
  parts : l.self.parts ≡ l.initial.self.parts;
  waiting : l.self.waiting.items ≡ l.initial.self.waiting.items ++ take l.next-index l.next-items;
}
