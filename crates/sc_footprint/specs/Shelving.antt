-- How closed terms are put on shelves. No public promise speaks of it.
use Rattle.std.specs.Prelude.{◌≡◌, ◌↔◌, ◌<◌, ◌+◌, ◌&&◌, ◌++◌, ◌==◌, ℕ, Bool, true, false, not, List, [], ◌∷◌, map, filter, length, Option, Some, None, if◌then◌else◌}
use Rattle.std.specs.List.{AllByRecursion}
use Rattle.sc_lists.specs.Members.{Has}
use Rattle.sc_sorts.specs.declared.node.Node.{Node}
use Rattle.sc_sorts.specs.declared.node.Node.TheVariants as node
use Rattle.sc_sorts.specs.declared.node.UnaryOp.TheVariants as unary
use Rattle.sc_sorts.specs.declared.node.BinaryOp.TheVariants as binary
use Rattle.sc_sorts.specs.declared.node.ManyOp.TheVariants as manys
use Rattle.sc_terms.specs.Trees.{Tree}
use Rattle.sc_terms.specs.Tables.{tree}
use Rattle.sc_closure.specs.Making.{stood}
use Rattle.sc_rule_laws.specs.Terms.{one_sort}
use Rattle.sc_closure.specs.Places.{place_among}
use Rattle.sc_footprint.specs.declared.kind.Kind.{Kind}
use Rattle.sc_footprint.specs.declared.kind.Kind.TheVariants as kind
use Rattle.sc_footprint.specs.declared.shelves.Shelf.{Shelf}
use Rattle.sc_footprint.specs.Indices.{terms_at}
use Rattle.sc_footprint.specs.Kinds.{same_kind}
use Rattle.sc_footprint.specs.Shelves.{key_of, has_key_like, is_of_kind, is_candidate, attributes_owner, ancestors_owner, keys_owner, tag_owner}

-- the keys and the terms of shelves are numbers of the table
pub record AreWithin (xs : List Node) (ss : List Shelf) : Type 0 where
  pub keys_in : AllByRecursion (λ (s : Shelf). s.key < length xs) ss
  pub terms_in : AllByRecursion (λ (s : Shelf). AllByRecursion (λ n. n < length xs) s.terms.items) ss

abbrev pub if_so : Bool → ℕ → List ℕ
if_so true n = n ∷ []
if_so false n = []

-- a term more is last on each shelf that passes a test of its kind and of a term of its sort, and the others are as
-- they were
pub record IsAdded (xs : List Node) (old new : List Shelf) (n : ℕ) (test : Kind → ℕ → Bool) : Type 0 where
  pub within : AreWithin xs new
  pub each : (k : Kind) (m : ℕ) → m < length xs → terms_at xs new k m ≡ terms_at xs old k m ++ if_so (test k m) n

-- the place of the first shelf that passes a test, or how many there are
abbrev pub first_place : (Shelf → Bool) → List Shelf → ℕ
first_place test [] = 0
first_place test (s ∷ ss) = if test s then 0 else first_place test ss + 1

-- the shelf of a kind and of a key's sort
abbrev pub is_like : List Node → Kind → ℕ → Kind → ℕ → Bool
is_like xs kind_is key k m = same_kind kind_is k && one_sort (tree xs key) (tree xs m)

-- the shelf of a candidate's sort, if the term is one of these candidates
abbrev pub is_among : List Node → List ℕ → ℕ → Kind → ℕ → Bool
is_among xs candidates n k m =
    same_kind kind.Candidate k && (not (place_among candidates n == 0) && one_sort (tree xs n) (tree xs m))

-- the entity that a term of a kind tells of
abbrev pub told_of : Kind → Tree → Option Tree
told_of kind.Any t = None
told_of kind.Candidate t = None
told_of kind.Attributes t = attributes_owner t
told_of kind.Ancestors t = ancestors_owner t
told_of kind.Keys t = keys_owner t
told_of kind.Tag t = tag_owner t

-- the shelf of the entity's sort, where the term tells of one
abbrev pub is_told : List Node → ℕ → Kind → ℕ → Bool
is_told xs n k m = has_key_like (tree xs m) (told_of k (tree xs n))

-- the shelf of a closed term
abbrev pub belongs : List Node → List ℕ → ℕ → Kind → ℕ → Bool
belongs xs ns n k m = is_of_kind (stood xs ns) k (tree xs n) && has_key_like (tree xs m) (key_of k (tree xs n))

-- of closed terms the first have been put on their shelves, in order, and these are to come
pub record AreShelving (xs : List Node) (all rest : List ℕ) (ss : List Shelf) : Type 0 where
  pub within : AreWithin xs ss
  pub done : List ℕ
  pub are : all ≡ done ++ rest
  pub each : (k : Kind) (m : ℕ) → m < length xs → terms_at xs ss k m ≡ filter (λ n. belongs xs all n k m) done

-- the shelf of a kind and a sort has just the terms of that kind whose keys are of that sort, in order
pub record AreShelved (xs : List Node) (ns : List ℕ) (ss : List Shelf) : Type 0 where
  pub within : AreWithin xs ss
  pub each : (k : Kind) (m : ℕ) → m < length xs
      → stood xs (terms_at xs ss k m)
      ≡ filter (λ t. is_of_kind (stood xs ns) k t && has_key_like (tree xs m) (key_of k t)) (stood xs ns)

-- which kind a node's term is of that tells of an entity, and the entity
abbrev pub node_owned : Node → Option (Kind × ℕ)
node_owned (node.One (unary.Attributes own) e) = Some (kind.Attributes, e)
node_owned (node.One (unary.Ancestors own) e) = Some (kind.Ancestors, e)
node_owned (node.One unary.Keys e) = Some (kind.Keys, e)
node_owned (node.Two (binary.Tag own) e k) = Some (kind.Tag, e)
node_owned _ = None

-- the candidates that the node of a number tells of, by their numbers
abbrev pub node_candidates : ℕ → Node → List ℕ
node_candidates n (node.Two binary.Member a b) = a ∷ []
node_candidates n (node.Two binary.DifferencePick a b) = n ∷ []
node_candidates n (node.Two binary.CommonPick a b) = n ∷ []
node_candidates n (node.One (unary.Ancestors own) e) = e ∷ []
node_candidates n (node.Many (manys.Set member) ps) = map (λ (p : List ℕ × ℕ). p.1) ps
node_candidates n _ = []

-- the numbers of just the candidates that terms tell of
abbrev pub AreCandidates : List Node → List ℕ → List ℕ → Type 0
AreCandidates xs ns candidates = (n : ℕ) → n < length xs → Has candidates n
    ↔ (is_candidate (stood xs ns) (tree xs n) ≡ true)

-- those of the first terms, where these are to come
pub record AreCandidatesSoFar (xs : List Node) (all rest candidates : List ℕ) : Type 0 where
  pub done : List ℕ
  pub are : all ≡ done ++ rest
  pub candidates_are : AreCandidates xs done candidates
