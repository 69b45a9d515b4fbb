-- Ascending lists of just what holds, and the datatypes that the sorts of terms tell of.
use Rattle.std.specs.Prelude.{◌↔◌, ℕ, List, [], ◌∷◌, ◌++◌, flat_map}
use Rattle.std.specs.List.Sorted.{IsStrictlySortedBy}
use Rattle.std.specs.declared.cmp.Ordering.{Ordering}
use Rattle.sc_lists.specs.Members.{Has}
use Rattle.sc_sorts.specs.declared.sort.Sort.{Sort, Sort-F}
use Rattle.sc_sorts.specs.declared.sort.Sort.TheOpen as s
use Rattle.sc_terms.specs.Trees.{Tree}
use Rattle.sc_terms.specs.TreeSorts.{tree_sort}
use Rattle.sc_smtlib_terms.specs.Seen.{Seen, told_by}

-- xs are just what P holds of, each once, in ascending order
pub record AreJust {X : Type 0} (cmp : X → X → Ordering) (P : X → Type 0) (xs : List X) : Type 0 where
  pub ascending : IsStrictlySortedBy cmp xs
  pub just : (x : X) → Has xs x ↔ P x

-- of the sorts inside a sort, and of itself
abbrev pub datatypes_step : Sort → Sort-F (Seen (List Sort)) → List Sort
datatypes_step x s.Ip = x ∷ []
datatypes_step x (s.Entity name choices) = x ∷ []
datatypes_step x (s.Set member) = member.1
datatypes_step x (s.Record fields) = flat_map (λ (f : List ℕ × Seen (List Sort)). f.1.1) fields ++ x ∷ []
datatypes_step x (s.Option held) = held.1 ++ x ∷ []
datatypes_step x _ = []

-- the datatypes that a sort tells of
unfoldable pub datatypes_in : Sort → List Sort
datatypes_in = told_by (List Sort) datatypes_step

-- those that the sorts of terms tell of
abbrev pub datatypes_of : List Tree → List Sort
datatypes_of ts = flat_map (λ t. datatypes_in (tree_sort t)) ts
