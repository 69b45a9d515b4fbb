use Rattle.std.proofs.Common.{◌≡◌, ◌++◌, take}
use Rattle.sc_footprint.specs.Definitions.{kept}
use Rattle.th_defs.specs.Items.{item_clauses}
use Rattle.th_defs.proofs.clauses.push_kept.Given as goal

abbrev pub invariant-loop-clause : goal.invariant-loop-clause
invariant-loop-clause l = l.clauses ≡ l.initial.clauses ++ kept (take l.clause (item_clauses l.problem l.item))
