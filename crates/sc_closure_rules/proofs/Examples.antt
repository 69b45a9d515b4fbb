-- What goes with terms, at terms.
use Rattle.std.proofs.Common.{◌≡◌, [], ◌∷◌, refl, ap}
use Rattle.sc_schema.specs.Declarations.{Declarations}
use Rattle.sc_sorts.specs.declared.sort.Sort.{Sort}
use Rattle.sc_sorts.specs.declared.node.UnaryOp.TheVariants as unary
use Rattle.sc_sorts.specs.declared.node.BinaryOp.TheVariants as binary
use Rattle.sc_sorts.specs.declared.node.ManyOp.TheVariants as manys
use Rattle.sc_terms.specs.Trees.{Tree, one, two, choice, many, no_part, part}
use Rattle.sc_terms.specs.Folds.{equal_term, default_term}
use Rattle.sc_terms.proofs.OrderLaws.{tree_eq-itself}
use Rattle.sc_rule_laws.specs.Terms.{member, subset, common, missing, shared, keys, one_sort}
use Rattle.sc_closure_rules.specs.Closure.{parts, beside, roles_in, candidate, named, set, flow, above, meet, equated_by, members_by, is_under, own_sets, ancestors_of}
use Rattle.sc_closure_rules.specs.Goals.{has_pick}

module _ (d : Declarations) (a b c e f x y : Tree) (k : Sort) where
  -- attributes are no set term
  abbrev attributes : Tree → Tree
  attributes z = one (unary.Attributes k) z

  choice_parts : parts (choice c a b) ≡ c ∷ a ∷ b ∷ []
  choice_parts = refl

  tag_of : beside d (two (binary.Tag k) a b) ≡ keys a ∷ member b (keys a) ∷ equal_term (two (binary.Tag k) a b) (default_term k) ∷ []
  tag_of = refl

  -- ---- set terms tell by their members

  member_of_pair : beside d (member x (many (manys.Set k) (part [] a (part [] b no_part)))) ≡ equal_term x a ∷ equal_term x b ∷ []
  member_of_pair = refl

  pair_within : beside d (subset (many (manys.Set k) (part [] a (part [] b no_part))) c) ≡ member a c ∷ member b c ∷ []
  pair_within = refl

  pair_common : beside d (common (attributes e) (many (manys.Set k) (part [] a (part [] b no_part)))) ≡ member a (attributes e) ∷ member b (attributes e) ∷ []
  pair_common = refl

  -- no candidate of theirs meets others
  no_role : roles_in (member x (many (manys.Set k) (part [] a (part [] b no_part)))) ≡ []
  no_role = refl

  -- ---- other sets by a member that is picked

  within : beside d (subset (attributes e) b) ≡ missing (attributes e) b ∷ member (missing (attributes e) b) (attributes e) ∷ member (missing (attributes e) b) b ∷ []
  within = refl

  in_common : beside d (common (attributes e) (attributes f)) ≡ shared (attributes e) (attributes f) ∷ member (shared (attributes e) (attributes f)) (attributes e) ∷ member (shared (attributes e) (attributes f)) (attributes f) ∷ []
  in_common = refl

  -- ---- candidates

  member_role : roles_in (member x (attributes e)) ≡ candidate x (attributes e) ∷ []
  member_role = refl

  subset_role : roles_in (subset (attributes e) b) ≡ flow (attributes e) b ∷ []
  subset_role = refl

  common_role : roles_in (common (attributes e) (attributes f)) ≡ flow (attributes e) (attributes f) ∷ []
  common_role = refl

  common_with_pair : roles_in (common (attributes e) (many (manys.Set k) (part [] a (part [] b no_part)))) ≡ []
  common_with_pair = refl

  -- of one set two are equated, and one that flows is asked of the other
  two_candidates : meet (candidate x a) (candidate y a) ≡ equal_term x y ∷ []
  two_candidates = ap (λ t. equated_by t x y) (tree_eq-itself a)

  one_flows : meet (candidate x a) (flow a b) ≡ member x b ∷ []
  one_flows = ap (λ t. members_by t x b) (tree_eq-itself a)

  -- the keys of entities of one type are linked, keys and ancestors aren't
  keys_linked : own_sets (keys e) (keys f) ≡ one_sort e f
  keys_linked = refl

  others_apart : own_sets (keys e) (ancestors_of k f) ≡ own_sets (ancestors_of k f) (keys e)
  others_apart = refl

  -- whoever may be an ancestor is asked
  ancestor : meet (above k e) (above k f) ≡ members_by (is_under f k) f (ancestors_of k e)
  ancestor = refl

  two_sets : meet (set a) (set b) ≡ []
  two_sets = refl

  text_and_set : meet (named a) (set b) ≡ []
  text_and_set = refl

  picks : has_pick (two binary.CommonPick a b) ≡ has_pick (two binary.DifferencePick a b)
  unfolding has_pick
  picks = refl
