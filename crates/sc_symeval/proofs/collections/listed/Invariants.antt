use Rattle.std.proofs.Common.{◌≡◌, ◌++◌}
use Rattle.sc_symeval.proofs.collections.listed.Given as goal

abbrev pub invariant-loop-name : goal.invariant-loop-name
invariant-loop-name l = l.parts ++ l.name-iterator ≡ l.fn.named.entries
