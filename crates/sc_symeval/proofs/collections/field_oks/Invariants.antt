use Rattle.std.proofs.Common.{◌≡◌, map, take}
use Rattle.sc_constructs.specs.Numbers.{OptField}
use Rattle.sc_symeval.proofs.collections.field_oks.Given as goal

abbrev pub invariant-loop-field : goal.invariant-loop-field
invariant-loop-field l = l.numbers ≡ map (λ (f : OptField). f.1.ok) (take l.field-index l.fields)
