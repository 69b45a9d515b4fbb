use Rattle.std.proofs.Common.{◌≡◌, ◌≤◌, ◌+◌, ◌-◌, ◌++◌, length, map, take}
use Rattle.std.specs.Vec.{vec_len, vec_capacity}
use Rattle.sc_refutations.specs.Arenas.{lit_of}
use Rattle.sc_refutations.proofs.codes.put_codes.Given as goal

-- the literals before have their numbers, and there is room for the others
abbrev pub invariant-loop-lit : goal.invariant-loop-lit
invariant-loop-lit l = record {
  written : map lit_of l.codes.items ≡ map lit_of l.initial.codes.items ++ take l.lit-index l.clause;
  room : vec_len l.codes + (length l.clause - l.lit-index) ≤ vec_capacity l.codes;
}
