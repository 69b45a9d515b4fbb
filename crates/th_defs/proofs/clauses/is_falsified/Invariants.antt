use Rattle.std.proofs.Common.{◌≡◌, true, take}
use Rattle.std.specs.List.{list_all}
use Rattle.sc_clauses.specs.Assignments.{is_false}
use Rattle.th_defs.specs.Items.{clause_at}
use Rattle.th_defs.proofs.clauses.is_falsified.Given as goal

abbrev pub invariant-loop-place : goal.invariant-loop-place
invariant-loop-place l = list_all (is_false l.m) (take l.place (clause_at l.problem l.item l.clause)) ≡ true
