use Rattle.std.proofs.Common.{◌≡◌, drop}
use Rattle.std.specs.List.{list_any}
use Rattle.sc_reduction.specs.Lines.{is_open}
use Rattle.sc_reduction.proofs.lines.code_of.Given as goal

abbrev pub invariant-loop-fate : goal.invariant-loop-fate
invariant-loop-fate l = list_any is_open l.fates ≡ list_any is_open (drop l.fate-index l.fates)
