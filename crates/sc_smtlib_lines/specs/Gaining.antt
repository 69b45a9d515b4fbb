-- Sets that gain members, and the names that a script has. No public promise speaks of it.
use Rattle.std.specs.Prelude.{◌≡◌, ◌<◌, ◌↔◌, ◌⊎◌, ℕ, List, map, length}
use Rattle.std.specs.List.{AllByRecursion}
use Rattle.std.specs.List.Sorted.{IsStrictlySortedBy}
use Rattle.std.specs.declared.cmp.Ordering.{Ordering}
use Rattle.sc_lists.specs.Members.{Has}
use Rattle.sc_sorts.specs.declared.sort.Sort.{Sort}
use Rattle.sc_terms.specs.Trees.{Tree}
use Rattle.sc_terms.specs.Tables.{tree, IsTable}
use Rattle.sc_closure_rules.specs.Closure.{parts}
use Rattle.sc_smtlib_lines.specs.declared.datatypes.Layered.{Layered}
use Rattle.sc_smtlib_lines.specs.declared.names.Names.{Names}
use Rattle.sc_smtlib_lines.specs.contracts.datatypes.LayeredOrd.TheImpl.{ghosts as layered_ord}
use Rattle.sc_smtlib_lines.specs.Depths.{depth}

-- new has what old has, and more
pub record Gains {X : Type 0} (old new more : List X) : Type 0 where
  pub are : (x : X) → Has new x ↔ (Has old x ⊎ Has more x)

-- what a set holds now and what is still to be put are what it held first and all
pub record Leads {X : Type 0} (first now rest all : List X) : Type 0 where
  pub are : (x : X) → (Has now x ⊎ Has rest x) ↔ (Has first x ⊎ Has all x)

-- ---- datatypes with their depths

abbrev pub layered_cmp : Layered → Layered → Ordering
layered_cmp = layered_ord.cmp

pub record AreLayered (set : List Layered) : Type 0 where
  pub ascending : IsStrictlySortedBy layered_cmp set
  pub depths : (l : Layered) → Has set l → l.depth ≡ depth l.sort

abbrev pub sorts_in : List Layered → List Sort
sorts_in = map (λ (l : Layered). l.sort)

-- ---- names

-- the terms of a script
abbrev pub terms_of : Names → List Tree
terms_of s = map (tree s.terms.now) s.numbers.now.keys

pub record AreNames (s : Names) : Type 0 where
  pub table : IsTable s.terms.now
  pub within : AllByRecursion (λ n. n < length s.terms.now) s.numbers.now.keys

-- an entity by its number, with a sort, as a term with it
abbrev pub seen_at : Names → ℕ × Sort → Tree × Sort
seen_at s a = (tree s.terms.now a.0, a.1)

abbrev pub AreWithin : ℕ → List (ℕ × Sort) → Type 0
AreWithin n = AllByRecursion (λ (a : ℕ × Sort). a.0 < n)

-- each part of a term is a term
abbrev pub AreClosed : List Tree → Type 0
AreClosed ts = (t p : Tree) → Has ts t → Has (parts t) p → Has ts p
