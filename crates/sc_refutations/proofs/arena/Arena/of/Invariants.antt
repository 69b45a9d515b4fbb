use Rattle.std.proofs.Common.{◌≡◌, take}
use Rattle.sc_refutations.proofs.arena.Arena.of.Given as goal

-- the clauses before are taken
abbrev pub invariant-loop-place : goal.invariant-loop-place
invariant-loop-place l = l.arena ≡ take l.place l.clauses
