use Rattle.std.proofs.Common.{◌≡◌, ◌++◌, flat_map}
use Rattle.sc_reduction.specs.Lines.{log_of}
use Rattle.sc_reduction.proofs.lines.logs_of.Given as goal

abbrev pub invariant-loop-fate : goal.invariant-loop-fate
invariant-loop-fate l = l.logs.items ++ flat_map log_of l.fate-iterator.rest.items ≡ flat_map log_of l.fn.fates
