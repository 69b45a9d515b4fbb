-- Terms of a table in classes, those that an assignment says are equal in one.
use Rattle.std.specs.Prelude.{◌≡◌, ◌<◌, ◌≤◌, ℕ, Bool, true, false, List, [], ◌∷◌, length, get_or, Some}
use Rattle.sc_clauses.specs.Assignments.{Assignment, value_of}
use Rattle.sc_names.specs.declared.uid.Uid.{Uid}
use Rattle.sc_sorts.specs.declared.node.BinaryOp.TheVariants.{Equal}
use Rattle.sc_sorts.specs.declared.node.Leaf.TheVariants.{Literal}
use Rattle.sc_sorts.specs.declared.node.Literal.TheVariants.{Entity}
use Rattle.sc_terms.specs.Trees.{Tree, leaf, two}
use Rattle.sc_terms.specs.Tables.{tree}
use Rattle.sc_footprint.specs.Problems.{Posed, atoms, numbered}
use Rattle.sc_rule_instances.specs.Known.{few_items, named_at, truth_of}
use Rattle.th_equal.specs.Classes.{IsSame}

-- the sides of an equation are in one class
unfoldable pub AreSidesJoined : Posed → Tree → List ℕ → Type 0
AreSidesJoined p t ps =
    (a b : ℕ) → a < length p.nodes → b < length p.nodes → t ≡ two Equal (tree p.nodes a) (tree p.nodes b)
    → IsSame ps a b

-- those of an atom are, if the assignment says that it is true
unfoldable pub IsAtomJoined : Posed → Assignment → ℕ → List ℕ → Type 0
IsAtomJoined p m n ps =
    value_of m n ≡ Some true → (t : Tree) → numbered (atoms p) n ≡ Some t → AreSidesJoined p t ps

-- those of the first so many atoms
unfoldable pub AreAtomsJoined : Posed → Assignment → ℕ → List ℕ → Type 0
AreAtomsJoined p m count ps = (n : ℕ) → n ≤ count → IsAtomJoined p m n ps

-- an entity with other entities beside it
abbrev pub are_some : List Uid → Bool
are_some [] = false
are_some (u ∷ us) = true

abbrev pub has_choices : Tree → Bool
has_choices (leaf (Literal (Entity u us))) = are_some us
has_choices _ = false

-- two items are in one class, if the assignment says that they are equal
unfoldable pub IsPairJoined : Posed → Assignment → List ℕ → ℕ → ℕ → List ℕ → Type 0
IsPairJoined p m ns i j ps =
    (x y : ℕ) → named_at p ns i ≡ Some x → named_at p ns j ≡ Some y → truth_of p m ns i j ≡ Some true → IsSame ps x y

-- an item and each of the first so many are
unfoldable pub IsRowJoined : Posed → Assignment → List ℕ → ℕ → ℕ → List ℕ → Type 0
IsRowJoined p m ns i count ps = (j : ℕ) → j < count → IsPairJoined p m ns i j ps

-- an item is with each, if it is an entity with others beside it
unfoldable pub IsItemJoined : Posed → Assignment → List ℕ → ℕ → List ℕ → Type 0
IsItemJoined p m ns i ps =
    (x : ℕ) → named_at p ns i ≡ Some x → has_choices (tree p.nodes x) ≡ true
    → IsRowJoined p m ns i (few_items (length ns)) ps

unfoldable pub AreRowsJoined : Posed → Assignment → List ℕ → ℕ → List ℕ → Type 0
AreRowsJoined p m ns count ps = (i : ℕ) → i < count → IsItemJoined p m ns i ps

-- the label of an item is that of its term
unfoldable pub IsLabelAt : Posed → List ℕ → List ℕ → ℕ → ℕ → Type 0
IsLabelAt p ns ls i l = (x : ℕ) → named_at p ns i ≡ Some x → l ≡ get_or ls x 0

pub record AreFirstLabels (p : Posed) (ns ls : List ℕ) (count : ℕ) (found : List ℕ) : Type 0 where
  pub sized : length found ≡ count
  pub at : (i : ℕ) → i < count → IsLabelAt p ns ls i (get_or found i 0)
