-- Places of attributes and of tags, by the numbers of closed terms and of their roots. No public promise speaks of it.
use Rattle.std.specs.Prelude.{◌≡◌, ◌<◌, ℕ, Bool, true, false, List, length, Option, Some, None, if◌then◌else◌}
use Rattle.std.specs.List.{AllByRecursion}
use Rattle.sc_lists.specs.Members.{Has}
use Rattle.sc_sorts.specs.declared.node.Node.{Node}
use Rattle.sc_sorts.specs.declared.node.Node.TheVariants as node
use Rattle.sc_sorts.specs.declared.node.UnaryOp.{UnaryOp}
use Rattle.sc_sorts.specs.declared.node.UnaryOp.TheVariants as unary
use Rattle.sc_sorts.specs.declared.node.BinaryOp.TheVariants as binary
use Rattle.sc_terms.specs.Trees.{Tree, one, two}
use Rattle.sc_terms.specs.Tables.{tree}
use Rattle.sc_footprint.specs.Problems.{Posed, term_of}
use Rattle.th_entities.specs.declared.places.Place.{Place}

-- ---- roots

-- an operator is one step: into the field of a record, or into what an option holds
abbrev pub is_step : UnaryOp → Bool
is_step (unary.Field n) = true
is_step unary.Held = true
is_step _ = false

-- what a term is a place of
unfoldable pub root : Tree → Tree
root (one o a) = if is_step o then root a else one o a
root t = t

-- what a node is one step into
abbrev pub inner_part : Node → Option ℕ
inner_part (node.One (unary.Field n) a) = Some a
inner_part (node.One unary.Held a) = Some a
inner_part _ = None

pub record IsRootOf (xs : List Node) (n r : ℕ) : Type 0 where
  pub within : r < length xs
  pub is : root (tree xs n) ≡ tree xs r

abbrev pub is_tag : Tree → Bool
is_tag (two (binary.Tag s) e k) = true
is_tag _ = false

-- attributes or a tag
abbrev pub is_root : Tree → Bool
is_root (one (unary.Attributes k) e) = true
is_root (two (binary.Tag s) e k) = true
is_root _ = false

-- ---- places

abbrev pub root_of : Place → ℕ
root_of k = k.root

-- it is a closed term, with its root
pub record IsPlace (p : Posed) (k : Place) : Type 0 where
  pub term_in : k.term < length p.nodes
  pub root_in : k.root < length p.nodes
  pub is : term_of p k.number ≡ Some (tree p.nodes k.term)
  pub of : root (tree p.nodes k.term) ≡ tree p.nodes k.root
  pub top : is_root (tree p.nodes k.root) ≡ true

-- the closed term of a number is no place of attributes or of a tag
abbrev pub IsNoPlace : Posed → ℕ → Type 0
IsNoPlace p n = (t : Tree) → term_of p n ≡ Some t → is_root (root t) ≡ false

abbrev pub IsPlaceIf : Posed → ℕ → Option Place → Type 0
IsPlaceIf p n (Some k) = IsPlace p k × (k.number ≡ n)
IsPlaceIf p n None = IsNoPlace p n

-- one of these has the number
pub record IsPlacedAt (places : List Place) (n : ℕ) : Type 0 where
  pub place : Place
  pub there : Has places place
  pub is : place.number ≡ n

-- the closed term of a number is among these, if it is a place of attributes or of a tag
abbrev pub IsPlaced : Posed → List Place → ℕ → Type 0
IsPlaced p places n = (t : Tree) → term_of p n ≡ Some t → is_root (root t) ≡ true → IsPlacedAt places n

-- these are all places of attributes and of tags, and no others
unfoldable pub ArePlaces : Posed → List Place → Type 0
ArePlaces p places = ((n : ℕ) → IsPlaced p places n) × AllByRecursion (IsPlace p) places

-- these are places of one root
unfoldable pub AreRooted : Posed → ℕ → List Place → Type 0
AreRooted p r places = AllByRecursion (λ (k : Place). k.root ≡ r) places × AllByRecursion (IsPlace p) places

-- ---- worked rows

pub root_of_field : (n : List ℕ) (a : Tree) → root (one (unary.Field n) a) ≡ root a
unfolding root
root_of_field n a = λ i. root a
