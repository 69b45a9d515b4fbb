-- How large a type is: each type in it is a node, one level below the type that it stands in. A reference to a common
-- type is neither: what is counted is the type that it stands for.
use Rattle.std.specs.Prelude.{ℕ, zero, suc, ◌+◌, ◌≤◌, max, List, [], ◌∷◌, map, Contains}
use Rattle.std.specs.List.{sum_by, flat_map}
use Rattle.sc_schema.specs.declared.ty.Presence.{Presence}
use Rattle.sc_schema.specs.declared.ty.Ty.{Ty, Ty-F, fold-Ty, out-Ty}
use Rattle.sc_schema.specs.declared.ty.Ty.TheOpen as t

-- the most levels of a field
abbrev pub deepest : List (List ℕ × Presence × ℕ) → ℕ
deepest [] = 0
deepest (f ∷ fields) = max f.2 (deepest fields)

abbrev pub levels_step : Ty-F ℕ → ℕ
levels_step (t.Set member) = member + 1
levels_step (t.Record fields) = deepest fields + 1
levels_step _ = 1

-- how many types stand inside one another: a set has one level more than its members, and a record one more than its
-- deepest field
unfoldable pub levels : Ty → ℕ
levels = fold-Ty ℕ levels_step

abbrev pub nodes_step : Ty-F ℕ → ℕ
nodes_step (t.Set member) = member + 1
nodes_step (t.Record fields) = sum_by (λ (f : List ℕ × Presence × ℕ). f.2) fields + 1
nodes_step _ = 1

-- how many types stand in a type, itself counted
unfoldable pub nodes : Ty → ℕ
nodes = fold-Ty ℕ nodes_step

-- ---- the same, counted from the type itself down

-- the types that stand directly in a type
abbrev pub parts_of : Ty-F Ty → List Ty
parts_of (t.Set member) = member ∷ []
parts_of (t.Record fields) = map (λ (f : List ℕ × Presence × Ty). f.2) fields
parts_of _ = []

abbrev pub parts : Ty → List Ty
parts u = parts_of (out-Ty u)

-- a type stands in another at this level: in itself at level 1, and one level below each type that it stands in
-- directly
pub data StandsAt (whole : Ty) : ℕ → Ty → Type 0 where
  whole_type : StandsAt whole 1 whole
  part : (n : ℕ) (u v : Ty) → StandsAt whole n u → Contains (parts u) v → StandsAt whole (n + 1) v

-- the types that stand in a type at this many levels, itself first, each as often as it stands there
abbrev pub standing : ℕ → Ty → List Ty
standing zero u = []
standing (suc n) u = u ∷ flat_map (standing n) (parts u)

-- ---- the bounds

abbrev pub max_levels : ℕ
max_levels = 32

abbrev pub max_nodes : ℕ
max_nodes = 4096

-- a type of at most 32 levels and 4,096 nodes
pub record IsSmall (u : Ty) : Type 0 where
  pub depth : levels u ≤ max_levels
  pub size : nodes u ≤ max_nodes
