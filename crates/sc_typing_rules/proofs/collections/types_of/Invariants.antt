use Rattle.std.proofs.Common.{◌≡◌, [], fold, drop}
use Rattle.sc_typing_rules.specs.Rules.{with_field}
use Rattle.sc_typing_rules.proofs.collections.types_of.Given as goal

abbrev pub invariant-loop-field : goal.invariant-loop-field
invariant-loop-field l = fold with_field l.types.entries (drop l.field-index l.fields) ≡ fold with_field [] l.fields
