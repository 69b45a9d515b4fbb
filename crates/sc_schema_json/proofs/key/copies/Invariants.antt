use Rattle.std.proofs.Common.{◌≡◌, take}
use Rattle.sc_schema_json.proofs.key.copies.Given as goal

abbrev pub invariant-loop-key : goal.invariant-loop-key
invariant-loop-key g l = l.copies ≡ take l.key-index l.keys
