use Rattle.std.proofs.Common.{◌≡◌, ◌++◌, true, map, length}
use Rattle.sc_logs.specs.Texts.{lit_text}
use Rattle.std.specs.List.{list_all}
use Rattle.sc_logs.specs.Writable.{is_lit}
use Rattle.sc_logs.proofs.words.read_lits.Given as goal

-- the words before are read
abbrev pub invariant-loop-word : goal.invariant-loop-word
invariant-loop-word l = record {
  fit : list_all is_lit l.lits.items ≡ true;
  text : l.initial.words ≡ map lit_text l.lits.items ++ l.words;
}

abbrev pub decreases-loop-word : goal.decreases-loop-word
decreases-loop-word l = length l.words
