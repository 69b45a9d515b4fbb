use Rattle.std.proofs.Common.{◌≡◌, ◌<◌, ◌++◌, true, map, drop, length}
use Rattle.std.specs.List.{list_all}
use Rattle.sc_refutations.specs.Arenas.{lit_of}
use Rattle.sc_logs.specs.Texts.{lit_text, spaced}
use Rattle.sc_logs.specs.Writable.{is_lit}
use Rattle.sc_logs.proofs.whole_lines.read_lits.Given as goal

-- the literals before are read
abbrev pub invariant-loop-word : goal.invariant-loop-word
invariant-loop-word l = record {
  within : l.place < length l.bytes;
  fit : list_all is_lit (map lit_of l.codes.items) ≡ true;
  text : drop l.from l.bytes ≡ spaced (map lit_text (map lit_of l.codes.items)) ++ drop l.place l.bytes;
}

abbrev pub decreases-loop-word : goal.decreases-loop-word
decreases-loop-word l = length (drop l.place l.bytes)
