use Rattle.std.proofs.Common.{◌≡◌, ◌≤◌, ◌+◌, ◌-◌, ◌++◌, take, length}
use Rattle.std.specs.Vec.{vec_len, vec_capacity}
use Rattle.sc_refutations.proofs.arena.write_reserved.Given as goal

-- the numbers before are written, and there is room for the others
abbrev pub invariant-loop-code : goal.invariant-loop-code
invariant-loop-code l = record {
  written : l.codes.items ≡ l.initial.codes.items ++ take l.code-index l.clause;
  room : vec_len l.codes + (length l.clause - l.code-index) ≤ vec_capacity l.codes;
}
