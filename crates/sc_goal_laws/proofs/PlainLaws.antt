-- Plain terms: none of their parts picks a member or is an absent option, and each entity that is written in them has a property. What
-- constructors make of plain terms is plain. Of an absent option they would make a default, in which an entity may be written that has no id.
use Rattle.std.proofs.Common.{◌≡◌, ◌||◌, ℕ, Bool, true, false, not, cond, List, [], ◌∷◌, map, All, Option, Some, None, refl, subst}
use Rattle.std.specs.List.{AllByRecursion}
use Rattle.std.specs.Map.{lookup}
use Rattle.std.specs.Ordering.{is_gt}
use Rattle.std.specs.Str.{bytes_eq}
use Rattle.sc_lists.proofs.ListLaws.{all_append}
use Rattle.sc_names.specs.declared.uid.Uid.{Uid}
use Rattle.sc_pattern.specs.declared.part.Part.{Part}
use Rattle.sc_sorts.specs.declared.sort.Sort.{Sort}
use Rattle.sc_sorts.specs.declared.node.Leaf.{Leaf}
use Rattle.sc_sorts.specs.declared.node.Leaf.TheVariants as leafs
use Rattle.sc_sorts.specs.declared.node.Literal.{Literal}
use Rattle.sc_sorts.specs.declared.node.Literal.TheVariants as literal
use Rattle.sc_sorts.specs.declared.node.UnaryOp.{UnaryOp}
use Rattle.sc_sorts.specs.declared.node.UnaryOp.TheVariants as unary
use Rattle.sc_sorts.specs.declared.node.BinaryOp.{BinaryOp}
use Rattle.sc_sorts.specs.declared.node.BinaryOp.TheVariants as binary
use Rattle.sc_sorts.specs.declared.node.ManyOp.{ManyOp}
use Rattle.sc_sorts.specs.declared.node.ManyOp.TheVariants as manys
use Rattle.sc_terms.specs.Trees.{Tree, leaf, one, two, choice, many, Trees, no_part, part, listed, parts_of}
use Rattle.sc_terms.specs.Order.{tree_cmp, tree_eq}
use Rattle.sc_terms.specs.Folds.{truth_term, constant, under_not, literal_of, literals_same, component, among_parts, absent, equation, other_equal, not_by, not_term, and_by, and_term, or_by, or_term, choice_by, choice_term, equal_by, equal_term, field_by, field_term, present_by, present_term, held_by, held_term, bit_by, bit_term, like_by, like_term, without_label}
use Rattle.sc_terms.specs.Joined.{all_of, any_of}
use Rattle.sc_terms.proofs.FoldValues.{under}
use Rattle.sc_terms.proofs.JoinedKeeps.{joined_keeps}
use Rattle.sc_closure_rules.specs.Goals.{is_pick, has_pick, some_pick, uids_of, all_uids}

-- no absent option, and no entity without the property
abbrev pub IsPlainLeaf : (Uid → Type 0) → Leaf → Type 0
IsPlainLeaf Named (leafs.Literal (literal.Entity u us)) = Named u
IsPlainLeaf Named (leafs.None held) = ⊥
IsPlainLeaf Named _ = Unit {0}

mutual
  pub data IsPlain (Named : Uid → Type 0) : Tree → Type 0 where
    plain_leaf : (l : Leaf) → IsPlainLeaf Named l → IsPlain Named (leaf l)
    plain_one : (o : UnaryOp) (a : Tree) → IsPlain Named a → IsPlain Named (one o a)
    plain_two : (o : BinaryOp) (a b : Tree) → is_pick o ≡ false → IsPlain Named a → IsPlain Named b → IsPlain Named (two o a b)
    plain_choice : (c a b : Tree) → IsPlain Named c → IsPlain Named a → IsPlain Named b → IsPlain Named (choice c a b)
    plain_many : (o : ManyOp) (ts : Trees) → ArePlain Named ts → IsPlain Named (many o ts)

  pub data ArePlain (Named : Uid → Type 0) : Trees → Type 0 where
    no_more : ArePlain Named no_part
    one_more : (l : List ℕ) (t : Tree) (ts : Trees) → IsPlain Named t → ArePlain Named ts → ArePlain Named (part l t ts)

neither : (a b : Bool) → a ≡ false → b ≡ false → (a || b) ≡ false
neither false b e f = f
neither true b e f = absurd cc

module _ (Named : Uid → Type 0) where
  abbrev Is : Tree → Type 0
  Is = IsPlain Named

  -- ---- what is so of plain terms

  mutual
    unfolding has_pick

    pub no_pick : (t : Tree) → Is t → has_pick t ≡ false
    no_pick _ (plain_leaf l h) = refl
    no_pick _ (plain_one o a h) = no_pick a h
    no_pick _ (plain_two o a b p g h) = neither (is_pick o) _ p (neither (has_pick a) (has_pick b) (no_pick a g) (no_pick b h))
    no_pick _ (plain_choice c a b f g h) = neither (has_pick c) _ (no_pick c f) (neither (has_pick a) (has_pick b) (no_pick a g) (no_pick b h))
    no_pick _ (plain_many o ts h) = none_picks ts h

    none_picks : (ts : Trees) → ArePlain Named ts → some_pick ts ≡ false
    none_picks _ no_more = refl
    none_picks _ (one_more l t ts h k) = neither (has_pick t) (some_pick ts) (no_pick t h) (none_picks ts k)

  mutual
    unfolding uids_of

    pub uids_named : (t : Tree) → Is t → AllByRecursion Named (uids_of t)
    uids_named _ (plain_leaf (leafs.Literal (literal.Entity u us)) h) = (h, tt)
    uids_named _ (plain_leaf l h) = tt
    uids_named _ (plain_one o a h) = uids_named a h
    uids_named _ (plain_two o a b p g h) = all_append Named (uids_of a) (uids_of b) (uids_named a g) (uids_named b h)
    uids_named _ (plain_choice c a b f g h) =
        all_append Named (uids_of c) _ (uids_named c f) (all_append Named (uids_of a) (uids_of b) (uids_named a g) (uids_named b h))
    uids_named _ (plain_many o ts h) = all_named ts h

    all_named : (ts : Trees) → ArePlain Named ts → AllByRecursion Named (all_uids ts)
    all_named _ no_more = tt
    all_named _ (one_more l t ts h k) = all_append Named (uids_of t) (all_uids ts) (uids_named t h) (all_named ts k)

  -- ---- connectives

  pub truth_plain : (b : Bool) → Is (truth_term b)
  truth_plain b = plain_leaf (leafs.Literal (literal.Bool b)) tt

  part_plain : (o : UnaryOp) (a : Tree) → Is (one o a) → Is a
  part_plain _ _ (plain_one o a h) = h

  pub not_plain : (a : Tree) → Is a → Is (not_term a)
  unfolding not_term
  not_plain a h = by (constant a) (under_not a) refl
    where
      by : (c : Option Bool) (u : Option Tree) → under_not a ≡ u → Is (not_by c u a)
      by (Some b) u e = truth_plain (not b)
      by None (Some x) e = part_plain unary.Not x (subst Is (under a x e) h)
      by None None e = plain_one unary.Not a h

  module _ (a b : Tree) (g : Is a) (h : Is b) where
    pub and_plain : Is (and_term a b)
    unfolding and_term
    and_plain = by (constant a) (constant b) (tree_eq a b)
      where
        by : (c e : Option Bool) (same : Bool) → Is (and_by c e same a b)
        by (Some true) e same = h
        by (Some false) e same = g
        by None (Some true) same = g
        by None (Some false) same = h
        by None None true = g
        by None None false = plain_two binary.And a b refl g h

    pub or_plain : Is (or_term a b)
    unfolding or_term
    or_plain = by (constant a) (constant b) (tree_eq a b)
      where
        by : (c e : Option Bool) (same : Bool) → Is (or_by c e same a b)
        by (Some true) e same = g
        by (Some false) e same = h
        by None (Some true) same = h
        by None (Some false) same = g
        by None None true = g
        by None None false = plain_two binary.Or a b refl g h

    pub equal_plain : Is (equal_term a b)
    unfolding equal_term
    equal_plain = by (constant a) (constant b)
      where
        ordered : (o : Bool) → Is (equation o a b)
        ordered true = plain_two binary.Equal b a refl h g
        ordered false = plain_two binary.Equal a b refl g h

        other : (same : Bool) (literals : Option Bool) → Is (other_equal same literals a b)
        other true literals = truth_plain true
        other false (Some same) = truth_plain same
        other false None = ordered (is_gt (tree_cmp a b))

        by : (c e : Option Bool) → Is (equal_by c e a b)
        by (Some true) e = h
        by (Some false) e = not_plain b h
        by None (Some true) = g
        by None (Some false) = not_plain a g
        by None None = other (tree_eq a b) (literals_same (literal_of a) (literal_of b))

    pub choice_plain : (c : Tree) → Is c → Is (choice_term c a b)
    unfolding choice_term
    choice_plain c f = by (constant c) (tree_eq a b)
      where
        by : (o : Option Bool) (same : Bool) → Is (choice_by o same c a b)
        by (Some true) same = g
        by (Some false) same = h
        by None true = g
        by None false = plain_choice c a b f g h

  pub all_plain : (ts : List Tree) → All Is ts → Is (all_of ts)
  all_plain ts h = joined_keeps Is and_term (truth_term true) (truth_plain true) and_plain _ ts h

  pub any_plain : (ts : List Tree) → All Is ts → Is (any_of ts)
  any_plain ts h = joined_keeps Is or_term (truth_term false) (truth_plain false) or_plain _ ts h

  -- ---- records and options

  found_by : (t u : Tree) (b : Bool) (q : Option Tree) → cond b (Some t) q ≡ Some u → Is t → (q ≡ Some u → Is u) → Is u
  found_by t u true q e h later = let same : t ≡ u = cc in subst Is same h
  found_by t u false q e h later = later e

  found_plain : (ts : Trees) (name : List ℕ) (u : Tree) → ArePlain Named ts → among_parts name ts ≡ Some u → Is u
  found_plain _ name u no_more e = absurd cc
  found_plain _ name u (one_more l t ts h k) e = found_by t u (bytes_eq name l) (lookup (bytes_eq name) (listed ts)) e h (found_plain ts name u k)

  component_plain : (name : List ℕ) (a u : Tree) → Is a → component name a ≡ Some u → Is u
  component_plain name _ u (plain_many manys.Record ts h) e = found_plain ts name u h e
  component_plain name _ u _ e = absurd cc

  pub field_plain : (name : List ℕ) (a : Tree) → Is a → Is (field_term name a)
  unfolding field_term
  field_plain name a h = by (component name a) refl
    where
      by : (o : Option Tree) → component name a ≡ o → Is (field_by o name a)
      by (Some u) e = component_plain name a u h e
      by None e = plain_one (unary.Field name) a h

  pub present_plain : (a : Tree) → Is a → Is (present_term a)
  unfolding present_term
  present_plain a h = by (absent a)
    where
      by : (o : Option Sort) → Is (present_by o a)
      by (Some held) = truth_plain false
      by None = plain_one unary.Present a h

  never_absent : (a : Tree) (k : Sort) → Is a → absent a ≡ Some k → ⊥
  never_absent _ k (plain_leaf (leafs.None held) h) e = h
  never_absent _ k _ e = absurd cc

  pub held_plain : (a : Tree) → Is a → Is (held_term a)
  unfolding held_term
  held_plain a h = by (absent a) refl
    where
      by : (o : Option Sort) → absent a ≡ o → Is (held_by o a)
      by (Some k) e = absurd (never_absent a k h e)
      by None e = plain_one unary.Held a h

  -- ---- bits, patterns, sets

  pub bit_plain : (i : ℕ) (a : Tree) → Is a → Is (bit_term a i)
  unfolding bit_term
  bit_plain i a h = by (literal_of a)
    where
      by : (o : Option Literal) → Is (bit_by o a i)
      by (Some l) = truth_plain _
      by None = plain_one (unary.Bit i) a h

  pub like_plain : (p : List Part) (a : Tree) → Is a → Is (like_term a p)
  unfolding like_term
  like_plain p a h = by (literal_of a)
    where
      by : (o : Option Literal) → Is (like_by o a p)
      by (Some l) = truth_plain _
      by None = plain_one (unary.Like p) a h

  pub members_plain : (ts : List Tree) → AllByRecursion Is ts → ArePlain Named (parts_of (map without_label ts))
  members_plain [] h = no_more
  members_plain (t ∷ ts) h = one_more [] t _ h.0 (members_plain ts h.1)
