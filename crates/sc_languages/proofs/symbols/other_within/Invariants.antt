use Rattle.std.proofs.Common.{ℕ, ◌≤◌, ◌<◌}
use Rattle.std.specs.Char.{IsScalar}
use Rattle.sc_lists.specs.Members.{Has}
use Rattle.sc_languages.proofs.symbols.other_within.Given as goal

abbrev pub invariant-loop-number : goal.invariant-loop-number
invariant-loop-number l = (c : ℕ) → IsScalar c → l.from ≤ c → c < l.number → Has l.letters c
