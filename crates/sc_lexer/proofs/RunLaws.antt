-- The longest run of bytes in front that pass a test.
use Rattle.std.proofs.Common.{◌≡◌, ℕ, ◌≤◌, List, length, take, Bool, sym, ◌∙◌, ap}
use Rattle.std.specs.List.{take_while}
use Rattle.std.proofs.lemmas.List.{take-take}
use Rattle.sc_lists.proofs.TextLaws.{take_while_front}

pub take-take_while : (p : ℕ → Bool) (n : ℕ) (cs : List ℕ) → n ≤ length (take_while p cs) → take n (take_while p cs) ≡ take n cs
take-take_while p n cs h = ap (take n) (sym (take_while_front p cs)) ∙ take-take n (length (take_while p cs)) cs h
