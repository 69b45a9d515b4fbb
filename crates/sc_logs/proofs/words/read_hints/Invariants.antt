use Rattle.std.proofs.Common.{◌≡◌, ◌++◌, true, map, length}
use Rattle.std.specs.Fmt.{decimal}
use Rattle.std.specs.List.{list_all}
use Rattle.sc_logs.specs.Writable.{is_hint}
use Rattle.sc_logs.proofs.words.read_hints.Given as goal

-- the words before are read
abbrev pub invariant-loop-word : goal.invariant-loop-word
invariant-loop-word l = record {
  fit : list_all is_hint l.hints.items ≡ true;
  text : l.initial.words ≡ map decimal l.hints.items ++ l.words;
}

abbrev pub decreases-loop-word : goal.decreases-loop-word
decreases-loop-word l = length l.words
