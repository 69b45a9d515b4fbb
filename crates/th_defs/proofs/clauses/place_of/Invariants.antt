use Rattle.std.proofs.Common.{◌≡◌, ◌<◌, ◌+◌, length, take}
use Rattle.sc_footprint.specs.Definitions.{kept}
use Rattle.th_defs.specs.Items.{item_clauses}
use Rattle.th_defs.proofs.clauses.place_of.Given as goal

abbrev pub invariant-loop-clause : goal.invariant-loop-clause
invariant-loop-clause l = record {
  positive : 0 < l.left;
  counted : l.left + length (kept (take l.clause (item_clauses l.problem l.item))) ≡ l.number;
}
