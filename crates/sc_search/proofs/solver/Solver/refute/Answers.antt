use Rattle.std.proofs.Common.{[]}
use Rattle.sc_propagation.proofs.RoomLaws.{refuted-shown}
use Rattle.sc_search.proofs.solver.Solver.refute.Goals as goal
use Rattle.sc_propagation.specs.Steps.{Shows}

pub returns : goal.returns
returns c =
    let cs = c.args.self.now.clauses in
    let hints = c.in_ok-hints.hints.items in
    let shows : Shows cs [] hints = c.in_ok-hints.ensures in
    record {
      step = record { clause = c.new.result; hints = c.from_vec.result };
      is_empty = c.new.ensures;
      steps_more = c.in_ok-push.ensures.items;
      is_shown = refuted-shown cs hints (record { clause = c.new.result; hints = c.from_vec.result }) shows c.requires.few_clauses c.new.ensures c.from_vec.ensures;
    }
