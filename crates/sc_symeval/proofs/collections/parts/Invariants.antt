use Rattle.std.proofs.Common.{◌≡◌, [], fold, drop}
use Rattle.sc_symeval.specs.Parts.{with_number}
use Rattle.sc_symeval.proofs.collections.parts.Given as goal

abbrev pub invariant-loop-field : goal.invariant-loop-field
invariant-loop-field l = fold with_number l.named.entries (drop l.field-index l.fields) ≡ fold with_number [] l.fields
