use Rattle.std.proofs.Common.{◌≡◌, ◌≤◌, take}
use Rattle.std.specs.Str.Parse.{digits_value}
use Rattle.sc_lexemes.proofs.number.long_of.Given as goal

abbrev pub invariant-loop-byte : goal.invariant-loop-byte
invariant-loop-byte l = record {
  long : l.value ≤ 9223372036854775807;
  value : l.value ≡ digits_value 10 (take l.byte-index l.byte-items);
}
