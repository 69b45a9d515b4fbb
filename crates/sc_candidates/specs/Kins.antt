-- Sets whose candidates are one another's, and their candidates, each kept once. No public promise speaks of it.
use Rattle.std.specs.Prelude.{◌≡◌, List, refl}
use Rattle.sc_sorts.specs.declared.sort.Sort.{Sort}
use Rattle.sc_sorts.specs.declared.node.Node.{Node}
use Rattle.sc_terms.specs.Trees.{Tree}
use Rattle.sc_closure_rules.specs.Closure.{are_linked, ancestors_up}
use Rattle.sc_candidates.specs.declared.crowds.Crowd.{Crowd}
use Rattle.sc_candidates.specs.Crowds.{AreCrowds, HasCandidate, JoinsCandidate}

-- two sets are linked with the same, and a candidate goes up from both to the same ancestors
pub record AreKin (s t : Tree) : Type 0 where
  pub links : (u : Tree) → are_linked s u ≡ are_linked t u
  pub ups : (x : Tree) (own : Sort) (e : Tree) → ancestors_up x s own e ≡ ancestors_up x t own e

-- a term is a candidate of a set or of one of its kin
pub record HasKin (xs : List Node) (crowds : List Crowd) (x s : Tree) : Type 0 where
  pub kin : Tree
  pub are : AreKin kin s
  pub has : HasCandidate xs crowds x kin

-- the candidates of crowds, each as one of some kin of its set
pub record AreKins (xs : List Node) (crowds kins : List Crowd) : Type 0 where
  pub are : AreCrowds xs kins
  pub there : (x s : Tree) → HasCandidate xs crowds x s → HasKin xs kins x s
  pub only : (x s : Tree) → HasCandidate xs kins x s → HasKin xs crowds x s

-- one more: a term that is a candidate of a set
pub record JoinsKin (xs : List Node) (old new : List Crowd) (x s : Tree) : Type 0 where
  pub kin : Tree
  pub are : AreKin kin s
  pub joins : JoinsCandidate xs old new x kin

-- ---- worked rows

pub kin_of_itself : (s : Tree) → AreKin s s
kin_of_itself s = record { links = λ u. refl; ups = λ x own e. refl }
