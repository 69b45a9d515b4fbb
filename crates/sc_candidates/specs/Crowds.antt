-- The candidates of sets by numbers of a table, set by set, and what goes with a role and those so far. No public
-- promise speaks of it.
use Rattle.std.specs.Prelude.{◌≡◌, ◌<◌, ◌⊎◌, ℕ, Bool, false, List, [], ◌∷◌, ◌++◌, map, flat_map, length, get_or}
use Rattle.std.specs.List.{AllByRecursion}
use Rattle.sc_lists.specs.Members.{Has}
use Rattle.sc_sorts.specs.declared.node.Node.{Node}
use Rattle.sc_terms.specs.Trees.{Tree}
use Rattle.sc_terms.specs.Tables.{tree}
use Rattle.sc_terms.specs.Order.{tree_eq}
use Rattle.sc_terms.specs.Folds.{equal_term}
use Rattle.sc_rule_laws.specs.Terms.{member}
use Rattle.sc_closure_rules.specs.Making.{stood}
use Rattle.sc_closure_rules.specs.Closure.{memberships, members_by, are_linked}
use Rattle.sc_candidates.specs.declared.crowds.Crowd.{Crowd}
use Rattle.sc_candidates.specs.Values.{with_other, where_so, AreDivided}

-- ---- crowds

-- what stands where there is no crowd
abbrev pub no_crowd : Crowd
no_crowd = record { set = 0; members = []; others = []; targets = [] }

-- of a set without candidates
abbrev pub crowd_of : ℕ → Crowd
crowd_of set = record { set = set; members = []; others = []; targets = [] }

-- one candidate more, which is a value or isn't, and one target more
abbrev pub with_candidate : Bool → Crowd → ℕ → Crowd
with_candidate value c n = record {
  set = c.set;
  members = c.members ++ n ∷ [];
  others = with_other value c.others n;
  targets = c.targets;
}

abbrev pub with_target : Crowd → ℕ → Crowd
with_target c n = record { set = c.set; members = c.members; others = c.others; targets = c.targets ++ n ∷ [] }

abbrev pub IsCrowdWithin : ℕ → Crowd → Type 0
IsCrowdWithin l c = (c.set < l) × AllByRecursion (λ n. n < l) c.members × AllByRecursion (λ n. n < l) c.targets

pub record IsCrowd (xs : List Node) (c : Crowd) : Type 0 where
  pub within : IsCrowdWithin (length xs) c
  pub divided : AreDivided xs c.members c.others

abbrev pub AreCrowds : List Node → List Crowd → Type 0
AreCrowds xs = AllByRecursion (IsCrowd xs)

-- the crowd of a set has a place, and one that is new has neither candidates nor targets
pub record IsPlaced (xs : List Node) (old new : List Crowd) (p : ℕ) (s : Tree) : Type 0 where
  pub within : p < length new
  pub of_set : tree xs (get_or new p no_crowd).set ≡ s
  pub old_there : (c : Crowd) → Has old c → Has new c
  pub only : (c : Crowd) → Has new c → Has old c ⊎ ((c.members ≡ []) × (c.targets ≡ []))
  pub are : AreCrowds xs old → AreCrowds xs new

-- ---- which roles they hold

-- some crowd of a set has a term among its candidates, or a set among its targets
pub record HasCandidate (xs : List Node) (crowds : List Crowd) (x s : Tree) : Type 0 where
  pub crowd : Crowd
  pub there : Has crowds crowd
  pub of_set : tree xs crowd.set ≡ s
  pub among : Has (stood xs crowd.members) x

pub record HasTarget (xs : List Node) (crowds : List Crowd) (s t : Tree) : Type 0 where
  pub crowd : Crowd
  pub there : Has crowds crowd
  pub of_set : tree xs crowd.set ≡ s
  pub among : Has (stood xs crowd.targets) t

-- one more: a term that is a candidate of a set
pub record JoinsCandidate (xs : List Node) (old new : List Crowd) (x s : Tree) : Type 0 where
  pub there : HasCandidate xs new x s
  pub old_candidate : (y t : Tree) → HasCandidate xs old y t → HasCandidate xs new y t
  pub old_target : (y t : Tree) → HasTarget xs old y t → HasTarget xs new y t
  pub only_candidate : (y t : Tree) → HasCandidate xs new y t → HasCandidate xs old y t ⊎ ((x ≡ y) × (s ≡ t))
  pub only_target : (y t : Tree) → HasTarget xs new y t → HasTarget xs old y t
  pub are : AreCrowds xs old → AreCrowds xs new

-- and a set of which those of another are candidates too
pub record JoinsTarget (xs : List Node) (old new : List Crowd) (s t : Tree) : Type 0 where
  pub there : HasTarget xs new s t
  pub old_candidate : (y u : Tree) → HasCandidate xs old y u → HasCandidate xs new y u
  pub old_target : (y u : Tree) → HasTarget xs old y u → HasTarget xs new y u
  pub only_candidate : (y u : Tree) → HasCandidate xs new y u → HasCandidate xs old y u
  pub only_target : (y u : Tree) → HasTarget xs new y u → HasTarget xs old y u ⊎ ((s ≡ y) × (t ≡ u))
  pub are : AreCrowds xs old → AreCrowds xs new

-- ---- what goes with a role and those so far

-- with a candidate x of a set s: its equations with the set's others, and its memberships in the set's targets, and
-- in the sets that are linked with it
abbrev pub met_crowd : List Node → Tree → Crowd → List Tree
met_crowd xs x c = map (λ y. equal_term y x) (stood xs c.members) ++ map (member x) (stood xs c.targets)

abbrev pub crowd_told : List Node → Tree → Tree → Crowd → List Tree
crowd_told xs x s c = where_so (tree_eq (tree xs c.set) s) (met_crowd xs x c)

abbrev pub linked_told : Tree → Tree → List Tree → List Tree
linked_told x s ts = flat_map (λ t. members_by (are_linked s t) x t) ts

-- with a set: the candidates of those that are linked with it
abbrev pub set_of : List Node → Tree → Crowd → List Tree
set_of xs t c = where_so (are_linked (tree xs c.set) t) (memberships (stood xs c.members) t)

abbrev pub set_told : List Node → Tree → List Crowd → List Tree
set_told xs t crowds = flat_map (set_of xs t) crowds

-- with a flow from one set to another: the candidates of the one
abbrev pub flow_of : List Node → Tree → Tree → Crowd → List Tree
flow_of xs s t c = where_so (tree_eq (tree xs c.set) s) (memberships (stood xs c.members) t)

abbrev pub flow_told : List Node → Tree → Tree → List Crowd → List Tree
flow_told xs s t crowds = flat_map (flow_of xs s t) crowds

-- ---- worked rows

-- a crowd of another set says nothing
pub other_crowd : (xs : List Node) (x s : Tree) (c : Crowd) → tree_eq (tree xs c.set) s ≡ false
    → crowd_told xs x s c ≡ []
other_crowd xs x s c e = λ i. where_so (e i) (met_crowd xs x c)
