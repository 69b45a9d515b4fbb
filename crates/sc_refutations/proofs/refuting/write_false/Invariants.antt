use Rattle.std.proofs.Common.{◌≡◌, ◌≤◌, ◌+◌, ◌-◌, ◌++◌, true, map, take, length}
use Rattle.std.specs.Vec.{vec_len, vec_capacity}
use Rattle.sc_refutations.specs.Arenas.{lit_of}
use Rattle.sc_refutations.specs.Known.{marked}
use Rattle.sc_refutations.specs.Refutations.{is_clause, negated}
use Rattle.sc_refutations.proofs.refuting.write_false.Given as goal

-- the literals before are those of a clause, and false, their numbers are written, and there is room for the others
abbrev pub invariant-loop-code : goal.invariant-loop-code
invariant-loop-code l = record {
  number : l.known.step ≡ l.initial.known.step;
  count : l.known.count ≡ l.initial.known.count;
  clause : is_clause (l.initial.known.count) (map lit_of (take l.code-index l.clause)) ≡ true;
  known : marked l.known.step l.known.marks.items ≡ negated (map lit_of (take l.code-index l.clause));
  written : l.codes.items ≡ l.initial.codes.items ++ take l.code-index l.clause;
  room : vec_len l.codes + (length l.clause - l.code-index) ≤ vec_capacity l.codes;
}
