use Rattle.std.proofs.Common.{◌≡◌, ℕ, List, map, take}
use Rattle.sc_model_values.proofs.members.part_numbers.Given as goal

abbrev pub invariant-loop-part : goal.invariant-loop-part
invariant-loop-part l = l.numbers ≡ map (λ (p : List ℕ × ℕ). p.1) (take l.part-index l.parts)
