use Rattle.std.proofs.Common.{◌+◌, ◌-◌, ◌<◌, ◌≡◌, length, arith}
use Rattle.sc_search.proofs.SearchLaws.{consistent-found}
use Rattle.sc_search.proofs.solver.Solver.ask.Goals as goal

pub returns-in-None : goal.returns-in-None
returns-in-None g c =
    let n = length c.args.self.now.trail.cells.items in
    let some : 0 < n = c.requires.some in
    consistent-found (g.S.Source.has_instance c.args.source.now) (g.S.Source.clause_of c.args.source.now) n (n - 1) c.args.self.now (omega arith) c.requires.ready c.requires.total c.in_ok-m.m c.in_ok-m.ensures (c.in_ok-violated.ensures.none c.in-None.is)
