use Rattle.std.proofs.Common.{◌≡◌, ◌<◌, ◌++◌, true, map, drop, length}
use Rattle.std.specs.Fmt.{decimal}
use Rattle.std.specs.List.{list_all}
use Rattle.sc_logs.specs.Texts.{spaced}
use Rattle.sc_logs.specs.Writable.{is_hint}
use Rattle.sc_logs.proofs.whole_lines.read_hints.Given as goal

-- the hints before are read
abbrev pub invariant-loop-word : goal.invariant-loop-word
invariant-loop-word l = record {
  within : l.place < length l.bytes;
  fit : list_all is_hint l.hints.items ≡ true;
  text : drop l.from l.bytes ≡ spaced (map decimal l.hints.items) ++ drop l.place l.bytes;
}

abbrev pub decreases-loop-word : goal.decreases-loop-word
decreases-loop-word l = length (drop l.place l.bytes)
