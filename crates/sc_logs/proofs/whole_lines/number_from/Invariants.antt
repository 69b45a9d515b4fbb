use Rattle.std.proofs.Common.{◌≡◌, ◌<◌, ◌+◌, ◌∷◌, take, drop, length}
use Rattle.std.specs.Str.Parse.{AllDigits, digits_value}
use Rattle.sc_logs.proofs.whole_lines.number_from.Given as goal

-- the bytes before are digits, and their value behind the first is known
abbrev pub invariant-loop-i : goal.invariant-loop-i
invariant-loop-i l = record {
  within : l.from + l.i < length l.bytes;
  digits : AllDigits 10 (take l.i (drop l.from l.bytes));
  value : l.value ≡ digits_value 10 (l.first ∷ take l.i (drop l.from l.bytes));
}
