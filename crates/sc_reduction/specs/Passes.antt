-- Passes over the policies that stay.
use Rattle.std.specs.Prelude.{◌≡◌, ◌≤◌, ◌+◌, ℕ, List, [], ◌∷◌, Bool, false, length, slice_index_or, slice_set, if◌then◌else◌, ⊤}
use Rattle.std.specs.List.{AllByRecursion}
use Rattle.sc_reduction.specs.Marked.{HasWorld}
use Rattle.sc_reduction.specs.Reductions.{Asked, IsEquivalent, IsFate, kept, stays}
use Rattle.sc_reduction.specs.declared.fate.Fate.{Fate}
use Rattle.sc_reduction.specs.declared.passes.Pass.{Pass}

-- how many are marked
abbrev pub marked : List Bool → ℕ
marked [] = 0
marked (m ∷ ms) = (if m then 1 else 0) + marked ms

-- the fates of the policies from a place on are so, where these are marked
abbrev pub AreFates : Asked → List Bool → ℕ → List Fate → Type 0
AreFates r marks place [] = ⊤
AreFates r marks place (f ∷ fs) = IsFate r marks place f × AreFates r marks (place + 1) fs

-- the marks are those of the fates, which are so
pub record AreSettled (r : Asked) (marks : List Bool) (fates : List Fate) : Type 0 where
  pub marks_are : marks ≡ kept fates
  pub fates_true : AreFates r marks 0 fates

-- what a pass leaves: those that stay decide as all do, and where the pass dropped none, each fate is so
pub record IsPass (r : Asked) (p : Pass) : Type 0 where
  pub one_each : length p.kept.items ≡ length r.policies
  pub equivalent : IsEquivalent r p.kept.items
  pub worlds : AllByRecursion (HasWorld r) p.fates.items
  pub settled : p.dropped ≡ false → AreSettled r p.kept.items p.fates.items

-- the pass leaves fewer, where it dropped one, and no more
abbrev pub IsFewer : Bool → List Bool → List Bool → Type 0
IsFewer dropped before now = (if dropped then 1 else 0) + marked now ≤ marked before

-- what trying the policy at a place does: the marks become those with what is found of it, the policies that are
-- marked decide as all do, a policy that had left doesn't come back, and what is found is so
pub record IsTried (r : Asked) (before : List Bool) (place : ℕ) (now : List Bool) (fate : Fate) : Type 0 where
  pub marks_are : now ≡ slice_set before place (stays fate)
  pub equivalent : IsEquivalent r now
  pub gone : (d : Bool) → slice_index_or before place d ≡ false → stays fate ≡ false
  pub fate_true : IsFate r before place fate
  pub world : HasWorld r fate
