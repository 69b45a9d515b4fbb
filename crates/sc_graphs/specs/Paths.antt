-- What a search for cycles keeps. No public promise speaks of it.
use Rattle.std.specs.Prelude.{◌≡◌, ◌<◌, ◌≤◌, ◌+◌, ◌⊎◌, ◌↔◌, ◌∷◌, ◌++◌, ℕ, List, [], Bool, true, false, get_or, length, Contains, if◌then◌else◌, nat_le, nat_lt, ◌&&◌, suc, ◌*◌, ◌^◌}
use Rattle.sc_graphs.specs.declared.path.Mark.{Mark}
use Rattle.sc_graphs.specs.declared.path.Mark.TheVariants.{New, OnPath, Left}
use Rattle.sc_graphs.specs.declared.path.Part.{Part}
use Rattle.sc_graphs.specs.declared.path.Search.{Search}
use Rattle.sc_graphs.specs.Reaching.{Reaches}
use Rattle.sc_graphs.specs.Graphs.{Follows}

-- the mark of a node; one that the graph doesn't list is left, and on no cycle
abbrev pub mark_in : List Mark → ℕ → Mark
mark_in marks n = get_or marks n (Left false)

-- the node at a place of the path
abbrev pub node_at : List ℕ → ℕ → ℕ
node_at path p = get_or path p 0

-- from one node one gets to the other, or they are one
abbrev pub Leads : List (List ℕ) → ℕ → ℕ → Type 0
Leads graph a b = (a ≡ b) ⊎ Reaches (Follows graph) a b

-- ---- the nodes

-- nodes on the path are marked with their places, and no others are
pub record AreOn (marks : List Mark) (path : List ℕ) : Type 0 where
  pub places : (n t : ℕ) → mark_in marks n ≡ OnPath t → (t < length path) × (node_at path t ≡ n)
  pub marked : (p : ℕ) → p < length path → mark_in marks (node_at path p) ≡ OnPath p

-- the path leads from each of its nodes to each later one; of nodes that are left it is known whether they lie on a
-- cycle, and what follows them is left
pub record IsMarked (graph : List (List ℕ)) (marks : List Mark) (path : List ℕ) : Type 0 where
  pub on : AreOn marks path
  pub settled : (n : ℕ) (b : Bool) → mark_in marks n ≡ Left b → (b ≡ true) ↔ Reaches (Follows graph) n n
  pub closed : (n m : ℕ) (b : Bool) → mark_in marks n ≡ Left b → Follows graph n m → (c : Bool)
      × (mark_in marks m ≡ Left c)
  pub chain : (p q : ℕ) → p < q → q < length path → Reaches (Follows graph) (node_at path p) (node_at path q)

-- ---- the parts of the path

-- a part of the path that ends before a place: each of its nodes leads back to its first one, and it is one node
-- alone unless a cycle was met in it; and what waits from its number on, up to another, follows its nodes
pub record IsPart (graph : List (List ℕ)) (path waiting : List ℕ) (part : Part) (end last : ℕ) : Type 0 where
  pub some : part.first < end
  pub waits : part.waiting ≤ last
  pub back : (p : ℕ) → part.first ≤ p → p < end → Leads graph (node_at path p) (node_at path part.first)
  pub alone : part.cyclic ≡ false → end ≡ part.first + 1
  pub round : part.cyclic ≡ true → Reaches (Follows graph) (node_at path part.first) (node_at path part.first)
  pub fed : (k : ℕ) → part.waiting ≤ k → k < last → (p : ℕ) × (part.first ≤ p) × (p < end)
      × Follows graph (node_at path p) (get_or waiting k 0)

-- the parts cover the path up to a place, one behind the other
pub data AreParts (graph : List (List ℕ)) (path waiting : List ℕ) : List Part → ℕ → ℕ → Type 0 where
  none : (parts : List Part) (end last : ℕ) → parts ≡ [] → end ≡ 0 → AreParts graph path waiting parts end last
  more : (parts front : List Part) (part : Part) (end last : ℕ) → parts ≡ front ++ part ∷ []
      → AreParts graph path waiting front part.first part.waiting
      → IsPart graph path waiting part end last → AreParts graph path waiting parts end last

-- the node is left, or on the path at this place or later
pub data IsPassed (marks : List Mark) (place n : ℕ) : Type 0 where
  is_left : (b : Bool) → mark_in marks n ≡ Left b → IsPassed marks place n
  is_on : (t : ℕ) → mark_in marks n ≡ OnPath t → place ≤ t → IsPassed marks place n

-- the node waits, at this place or later
abbrev pub Waits : List ℕ → ℕ → ℕ → Type 0
Waits waiting from n = (k : ℕ) × (from ≤ k) × (k < length waiting) × (get_or waiting k 0 ≡ n)

-- where what follows a part may stand on the path: a part without a cycle is followed by later ones alone
abbrev pub bound : Part → ℕ
bound part = if part.cyclic then part.first else part.first + 1

-- what follows the path from a part on is passed, or waits, but for one node
pub record IsPending (graph : List (List ℕ)) (marks : List Mark) (path waiting : List ℕ) (part : Part)
    (but : ℕ → Type 0) : Type 0 where
  pub each : (p n : ℕ) → part.first ≤ p → p < length path → Follows graph (node_at path p) n
      → IsPassed marks (bound part) n ⊎ (Waits waiting part.waiting n ⊎ but n)

-- ---- the search

pub record IsSearch (graph : List (List ℕ)) (marks : List Mark) (path : List ℕ) (parts : List Part) (waiting : List ℕ)
    (but : ℕ → Type 0) : Type 0 where
  pub nodes : IsMarked graph marks path
  pub covered : AreParts graph path waiting parts (length path) (length waiting)
  pub pending : (part : Part) → Contains parts part → IsPending graph marks path waiting part but

abbrev pub nothing : ℕ → Type 0
nothing n = ⊥

abbrev pub Stands : List (List ℕ) → Search → Type 0
Stands graph s = IsSearch graph s.marks.items s.path.items s.parts.items s.waiting.items nothing

-- a search whose path ends in a part that was taken off
abbrev pub StandsAt : List (List ℕ) → Search → Part → Type 0
StandsAt graph s part = IsSearch graph s.marks.items s.path.items (s.parts.items ++ part ∷ []) s.waiting.items nothing

-- what was left stays as it is, and what was met stays so
pub record Goes (old new : List Mark) : Type 0 where
  pub left : (n : ℕ) (b : Bool) → mark_in old n ≡ Left b → mark_in new n ≡ Left b
  pub met : (n : ℕ) → mark_in new n ≡ New → mark_in old n ≡ New

-- how many nodes were not met
abbrev pub unmet : List Mark → ℕ
unmet [] = 0
unmet (New ∷ marks) = suc (unmet marks)
unmet (Left b ∷ marks) = unmet marks
unmet (OnPath t ∷ marks) = unmet marks

-- how many steps are left at most, where no list is longer than a machine holds
abbrev pub steps_left : List Mark → List Part → List ℕ → ℕ
steps_left marks parts waiting = unmet marks * 2 ^ 66 + (length parts + length waiting)

-- ---- its steps

-- the part of a node that is put on the path
abbrev pub entered : List ℕ → List ℕ → Part
entered path waiting = record { first = length path; waiting = length waiting; cyclic = false }

-- the mark of a node, once those on the path from a place up to another are left
abbrev pub left_from : ℕ → ℕ → Bool → Mark → Mark
left_from first end cyclic New = New
left_from first end cyclic (Left b) = Left b
left_from first end cyclic (OnPath t) = if nat_le first t && nat_lt t end then Left cyclic else OnPath t

-- the part that ends behind a place and what stands before it, of parts that were taken off one by one
pub record IsJoining (graph : List (List ℕ)) (path waiting : List ℕ) (all front : List Part) (part : Part)
    (place end last : ℕ) : Type 0 where
  pub before : AreParts graph path waiting front part.first part.waiting
  pub own_end : ℕ
  pub own_last : ℕ
  pub is : IsPart graph path waiting part own_end own_last
  pub inside : place < own_end
  pub waits : part.waiting ≤ last
  pub fed : (k : ℕ) → part.waiting ≤ k → k < last → (p : ℕ) × (part.first ≤ p) × (p < end)
      × Follows graph (node_at path p) (get_or waiting k 0)
  pub kept : (q : Part) → Contains (front ++ part ∷ []) q → Contains all q

-- that part, joined to all behind it
pub record IsJoined (graph : List (List ℕ)) (path waiting : List ℕ) (all front : List Part) (joined : Part)
    (place end last : ℕ) : Type 0 where
  pub part : Part
  pub joining : IsJoining graph path waiting all front part place end last
  pub reaches : part.first ≤ place
  pub is : joined ≡ record { first = part.first; waiting = part.waiting; cyclic = true }
