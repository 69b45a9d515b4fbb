-- The closed terms of one kind, by a sort: what rules go over.
use Rattle.std.specs.Prelude.{◌&&◌, Bool, true, false, List, [], ◌∷◌, filter, Option, Some, None}
use Rattle.std.specs.List.{list_any}
use Rattle.sc_sorts.specs.declared.node.UnaryOp.TheVariants as unary
use Rattle.sc_sorts.specs.declared.node.BinaryOp.TheVariants as binary
use Rattle.sc_sorts.specs.declared.node.ManyOp.TheVariants as manys
use Rattle.sc_terms.specs.Trees.{Tree, one, two, many}
use Rattle.sc_terms.specs.Order.{tree_eq}
use Rattle.sc_closure.specs.Closure.{trees_in}
use Rattle.sc_rule_laws.specs.Terms.{one_sort}
use Rattle.sc_footprint.specs.declared.kind.Kind.{Kind}
use Rattle.sc_footprint.specs.declared.kind.Kind.TheVariants as kind
use Rattle.sc_footprint.specs.Problems.{Posed, closed_terms}

-- the candidates for members of sets that a term tells of: what is asked of a set, a member that is picked, those
-- that stand in a set term, and an entity that has ancestors
abbrev pub told_candidates : Tree → List Tree
told_candidates (two binary.Member x s) = x ∷ []
told_candidates (two binary.DifferencePick s t) = two binary.DifferencePick s t ∷ []
told_candidates (two binary.CommonPick s t) = two binary.CommonPick s t ∷ []
told_candidates (many (manys.Set own) ts) = trees_in ts
told_candidates (one (unary.Ancestors own) e) = e ∷ []
told_candidates _ = []

abbrev pub is_among_told : Tree → Tree → Bool
is_among_told t x = tree_eq x t

-- some closed term tells of a term as a candidate
abbrev pub is_candidate : List Tree → Tree → Bool
is_candidate ts t = list_any (λ s. list_any (is_among_told t) (told_candidates s)) ts

-- the entity that attributes, ancestors, keys or a tag are of
abbrev pub attributes_owner : Tree → Option Tree
attributes_owner (one (unary.Attributes own) e) = Some e
attributes_owner _ = None

abbrev pub ancestors_owner : Tree → Option Tree
ancestors_owner (one (unary.Ancestors own) e) = Some e
ancestors_owner _ = None

abbrev pub keys_owner : Tree → Option Tree
keys_owner (one unary.Keys e) = Some e
keys_owner _ = None

abbrev pub tag_owner : Tree → Option Tree
tag_owner (two (binary.Tag own) e k) = Some e
tag_owner _ = None

-- the term whose sort says where a term belongs: itself, or the entity that it tells of
abbrev pub key_of : Kind → Tree → Option Tree
key_of kind.Any t = Some t
key_of kind.Candidate t = Some t
key_of kind.Attributes t = attributes_owner t
key_of kind.Ancestors t = ancestors_owner t
key_of kind.Keys t = keys_owner t
key_of kind.Tag t = tag_owner t

abbrev pub is_of_kind : List Tree → Kind → Tree → Bool
is_of_kind ts kind.Candidate t = is_candidate ts t
is_of_kind ts _ t = true

abbrev pub has_key_like : Tree → Option Tree → Bool
has_key_like x None = false
has_key_like x (Some e) = one_sort e x

-- the closed terms of a kind whose keys are of the sort of a term, in order
abbrev pub shelf : Posed → Kind → Tree → List Tree
shelf p k x = filter (λ t. is_of_kind (closed_terms p) k t && has_key_like x (key_of k t)) (closed_terms p)
