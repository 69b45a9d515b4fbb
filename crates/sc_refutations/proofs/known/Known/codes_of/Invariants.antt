use Rattle.std.proofs.Common.{◌≡◌, true, map, take}
use Rattle.std.specs.List.{list_all}
use Rattle.sc_refutations.specs.Arenas.{lit_of, has_code}
use Rattle.sc_refutations.proofs.known.Known.codes_of.Given as goal

-- the literals before have their numbers
abbrev pub invariant-loop-lit : goal.invariant-loop-lit
invariant-loop-lit l = record {
  codes : map lit_of l.codes.items ≡ take l.lit-index l.clause;
  have : list_all has_code (take l.lit-index l.clause) ≡ true;
}
