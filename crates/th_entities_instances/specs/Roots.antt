-- The attributes or the tags that two terms are places of, by their numbers in the table.
use Rattle.std.specs.Prelude.{◌≡◌, ◌<◌, ℕ, true, [], ◌∷◌, length, Option, Some, None, if◌then◌else◌}
use Rattle.sc_sorts.specs.contracts.sort.SortPartialEq.TheImpl.{ghosts as sorts}
use Rattle.sc_sorts.specs.declared.node.Node.{Node}
use Rattle.sc_sorts.specs.declared.node.Node.TheVariants as node
use Rattle.sc_sorts.specs.declared.node.UnaryOp.TheVariants as unary
use Rattle.sc_sorts.specs.declared.node.BinaryOp.TheVariants as binary
use Rattle.sc_terms.specs.Tables.{tree}
use Rattle.sc_terms.specs.Folds.{equal_term}
use Rattle.sc_footprint.specs.Problems.{Posed}
use Rattle.sc_rule_laws.specs.Places.{roots, under}
use Rattle.sc_rule_laws.specs.Entities.{en1_of, en3_of}
use Rattle.sc_rule_laws.specs.Signed.{Signed, Said, unless}
use Rattle.th_entities_instances.specs.Alike.{IsNoLiteral}
use Rattle.th_entities_instances.specs.declared.places.Pair.{Pair}
use Rattle.th_entities_instances.specs.declared.places.TagPairs.{TagPairs}

abbrev pub pair_on : ℕ → ℕ → Pair
pair_on e f = record { first = e; second = f }

-- the entities of two attributes of one sort
abbrev pub attributes_pair : Node → Node → Option Pair
attributes_pair (node.One (unary.Attributes k) e) (node.One (unary.Attributes l) f) =
    if sorts.eq k l then Some (pair_on e f) else None
attributes_pair _ _ = None

-- the entities of two tags of one sort, and their keys
abbrev pub tags_on : Pair → Pair → TagPairs
tags_on es ks = record { entities = es; keys = ks }

abbrev pub tag_pairs : Node → Node → Option TagPairs
tag_pairs (node.Two (binary.Tag s) e k) (node.Two (binary.Tag t) f l) =
    if sorts.eq s t then Some (tags_on (pair_on e f) (pair_on k l)) else None
tag_pairs _ _ = None

-- that two terms aren't equal
abbrev pub unless_equal : Posed → Pair → Signed
unless_equal p q = unless (equal_term (tree p.nodes q.first) (tree p.nodes q.second))

pub record IsPairIn (p : Posed) (q : Pair) : Type 0 where
  pub first_in : q.first < length p.nodes
  pub second_in : q.second < length p.nodes

-- what EN1 says of two terms that are alike as this says, and what EN3 does
abbrev pub attributes_at : Posed → ℕ → ℕ → Said → Said
attributes_at p x y said = en1_of (roots (tree p.nodes x) (tree p.nodes y)).0
    (roots (tree p.nodes x) (tree p.nodes y)).1 said

abbrev pub tags_at : Posed → ℕ → ℕ → Said → Said
tags_at p x y said = en3_of (roots (tree p.nodes x) (tree p.nodes y)).0 (roots (tree p.nodes x) (tree p.nodes y)).1 said

-- two terms are like places of the attributes of these entities
pub record AreEntities (p : Posed) (x y : ℕ) (q : Pair) : Type 0 where
  pub inside : IsPairIn p q
  pub first_other : IsNoLiteral (tree p.nodes x)
  pub second_other : IsNoLiteral (tree p.nodes y)
  pub says : (said : Said) → attributes_at p x y said ≡ under true (unless_equal p q ∷ []) said

abbrev pub AreEntitiesIf : Posed → ℕ → ℕ → Option Pair → Type 0
AreEntitiesIf p x y (Some q) = AreEntities p x y q
AreEntitiesIf p x y None = (said : Said) → attributes_at p x y said ≡ None

-- two terms are like places of the tags of these entities under these keys
pub record AreTags (p : Posed) (x y : ℕ) (q : TagPairs) : Type 0 where
  pub entities_in : IsPairIn p q.entities
  pub keys_in : IsPairIn p q.keys
  pub first_other : IsNoLiteral (tree p.nodes x)
  pub second_other : IsNoLiteral (tree p.nodes y)
  pub says : (said : Said)
      → tags_at p x y said ≡ under true (unless_equal p q.entities ∷ unless_equal p q.keys ∷ []) said

abbrev pub AreTagsIf : Posed → ℕ → ℕ → Option TagPairs → Type 0
AreTagsIf p x y (Some q) = AreTags p x y q
AreTagsIf p x y None = (said : Said) → tags_at p x y said ≡ None
