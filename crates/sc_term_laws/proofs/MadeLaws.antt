-- What constructors make of terms are terms.
use Rattle.std.proofs.Common.{◌≡◌, ◌||◌, ℕ, Bool, true, false, not, cond, List, All, Option, Some, None, refl, sym, ap, ◌∙◌, subst}
use Rattle.std.specs.Ordering.{is_eq, is_gt, ordering_reverse}
use Rattle.std.specs.Map.{lookup}
use Rattle.std.specs.Str.{bytes_eq}
use Rattle.std.specs.declared.cmp.Ordering.{Ordering}
use Rattle.std.specs.declared.cmp.Ordering.TheVariants.{Less, Equal, Greater}
use Rattle.sc_names.specs.declared.uid.Uid.{Uid}
use Rattle.sc_pattern.specs.declared.part.Part.{Part}
use Rattle.sc_schema.specs.declared.declarations.Env.{Env}
use Rattle.sc_schema.specs.Declarations.{Declarations}
use Rattle.sc_sorts.specs.declared.sort.Sort.{Sort, out-Sort}
use Rattle.sc_sorts.specs.declared.sort.Sort.TheVariants as sort
use Rattle.sc_sorts.specs.Inside.{SortFields, fields_in}
use Rattle.sc_sorts.proofs.OutLaws.{out_Record}
use Rattle.sc_sorts.specs.declared.node.Leaf.TheVariants as leafs
use Rattle.sc_sorts.specs.declared.node.Literal.{Literal}
use Rattle.sc_sorts.specs.declared.node.Literal.TheVariants as literal
use Rattle.sc_sorts.specs.declared.node.ManyOp.TheVariants as manys
use Rattle.sc_sorts.specs.declared.node.UnaryOp.TheVariants as unary
use Rattle.sc_terms.specs.Trees.{Tree, leaf, one, two, choice, many, Trees, listed}
use Rattle.sc_terms.specs.TreeSorts.{tree_sort}
use Rattle.sc_terms.specs.Order.{tree_cmp, tree_eq}
use Rattle.sc_terms.specs.Folds.{truth_term, constant, under_not, literal_of, literals_same, component, among_parts, absent, equation, other_equal, not_by, not_term, and_by, and_term, or_by, or_term, choice_by, choice_term, equal_by, equal_term, field_by, field_term, present_by, present_term, bit_by, bit_term, like_by, like_term}
use Rattle.sc_terms.specs.Joined.{all_of, any_of}
use Rattle.sc_terms.proofs.JoinedKeeps.{joined_keeps}
use Rattle.sc_terms.proofs.OrderLaws.{tree_cmp_total}
use Rattle.sc_term_laws.specs.Unfolded.{lacks, stays_two}
use Rattle.sc_term_laws.specs.Judging.{IsTermOf, HaveFields, HasPlace}
use Rattle.sc_term_laws.specs.Judging as judged
use Rattle.sc_term_laws.proofs.JudgingLaws.{sort_is}
use Rattle.std.specs.Cmp.Derive.{both_true}
use Rattle.sc_laws.proofs.BoolLaws.{not_is_false}
use Rattle.sc_terms.proofs.FoldValues.{under}

-- ---- what isn't known stays

lacking : {X : Type 0} (o : Option X) → o ≡ None → lacks o ≡ true
lacking o e = ap lacks e

two_stay : (a b : Tree) → constant a ≡ None → constant b ≡ None → tree_eq a b ≡ false → stays_two a b ≡ true
two_stay a b e f g = both_true (lacking (constant a) e) (both_true (lacking (constant b) f) (not_is_false (tree_eq a b) g))

other_there : (o p : Option Literal) → literals_same o p ≡ None → (lacks o || lacks p) ≡ true
other_there None p h = refl
other_there (Some l) None h = refl
other_there (Some l) (Some m) h = cc

same_flip : (o p : Option Literal) → literals_same o p ≡ None → literals_same p o ≡ None
same_flip None None h = refl
same_flip None (Some m) h = refl
same_flip (Some l) None h = refl
same_flip (Some l) (Some m) h = cc

-- the other way round
turned : (o p : Ordering) → p ≡ ordering_reverse o → is_gt o ≡ true → (is_gt p ≡ false) × (is_eq p ≡ false)
turned Less p e h = cc
turned Equal p e h = cc
turned Greater p e h = (ap is_gt e, ap is_eq e)

level_differs : (a b : Tree) → is_eq (tree_cmp a b) ≡ false → tree_eq a b ≡ false
unfolding tree_eq
level_differs a b h = h

pub constant_sort : (a : Tree) (b : Bool) → constant a ≡ Some b → tree_sort a ≡ sort.Bool
unfolding tree_sort
constant_sort (leaf (leafs.Literal (literal.Bool c))) b h = refl
constant_sort (leaf (leafs.Literal (literal.Long n))) b h = cc
constant_sort (leaf (leafs.Literal (literal.String x))) b h = cc
constant_sort (leaf (leafs.Literal (literal.Decimal n))) b h = cc
constant_sort (leaf (leafs.Literal (literal.Ip x))) b h = cc
constant_sort (leaf (leafs.Literal (literal.Entity u us))) b h = cc
constant_sort (leaf (leafs.None s)) b h = cc
constant_sort (leaf (leafs.Principal s)) b h = cc
constant_sort (leaf (leafs.Resource s)) b h = cc
constant_sort (leaf (leafs.Context s)) b h = cc
constant_sort (one o a) b h = cc
constant_sort (two o c d) b h = cc
constant_sort (choice c d e) b h = cc
constant_sort (many o ts) b h = cc

module _ (d : Declarations) (env : Env) (written : List Uid) where
  abbrev Is : Sort → Tree → Type 0
  Is k t = IsTermOf d env written k t

  under_negation : (k : Sort) (t x : Tree) → Is k t → t ≡ one unary.Not x → Is sort.Bool x
  under_negation _ _ x (judged.of_not a h stays) e = let same : a ≡ x = cc in subst (Is sort.Bool) same h
  under_negation _ _ x _ e = absurd cc

  pub not_made : (a : Tree) → Is sort.Bool a → Is sort.Bool (not_term a)
  unfolding not_term
  not_made a h = by (constant a) (under_not a) refl refl
    where
      by : (c : Option Bool) (u : Option Tree) → constant a ≡ c → under_not a ≡ u → Is sort.Bool (not_by c u a)
      by (Some b) u e f = judged.of_truth (not b)
      by None (Some x) e f = under_negation sort.Bool a x h (under a x f)
      by None None e f = judged.of_not a h (both_true (lacking (constant a) e) (lacking (under_not a) f))

  module _ (a b : Tree) (g : Is sort.Bool a) (h : Is sort.Bool b) where
    pub and_made : Is sort.Bool (and_term a b)
    unfolding and_term
    and_made = by (constant a) (constant b) (tree_eq a b) refl refl refl
      where
        by : (c e : Option Bool) (s : Bool) → constant a ≡ c → constant b ≡ e → tree_eq a b ≡ s → Is sort.Bool (and_by c e s a b)
        by (Some true) e s i j k = h
        by (Some false) e s i j k = g
        by None (Some true) s i j k = g
        by None (Some false) s i j k = h
        by None None true i j k = g
        by None None false i j k = judged.of_and a b g h (two_stay a b i j k)

    pub or_made : Is sort.Bool (or_term a b)
    unfolding or_term
    or_made = by (constant a) (constant b) (tree_eq a b) refl refl refl
      where
        by : (c e : Option Bool) (s : Bool) → constant a ≡ c → constant b ≡ e → tree_eq a b ≡ s → Is sort.Bool (or_by c e s a b)
        by (Some true) e s i j k = g
        by (Some false) e s i j k = h
        by None (Some true) s i j k = h
        by None (Some false) s i j k = g
        by None None true i j k = g
        by None None false i j k = judged.of_or a b g h (two_stay a b i j k)

  pub choice_made : (k : Sort) (c a b : Tree) → Is sort.Bool c → Is k a → Is k b → Is k (choice_term c a b)
  unfolding choice_term
  choice_made k c a b f g h = by (constant c) (tree_eq a b) refl refl
    where
      by : (o : Option Bool) (s : Bool) → constant c ≡ o → tree_eq a b ≡ s → Is k (choice_by o s c a b)
      by (Some true) s i j = g
      by (Some false) s i j = h
      by None true i j = g
      by None false i j = judged.of_choice k c a b f g h (both_true (lacking (constant c) i) (not_is_false (tree_eq a b) j))

  bool_of : (k : Sort) (a : Tree) (b : Bool) → Is k a → constant a ≡ Some b → k ≡ sort.Bool
  bool_of k a b h e = sym (sort_is d env written k a h) ∙ constant_sort a b e

  pub equal_made : (k : Sort) (a b : Tree) → Is k a → Is k b → Is sort.Bool (equal_term a b)
  unfolding equal_term
  equal_made k a b g h = by (constant a) (constant b) refl refl
    where
      ordered : (o : Bool) → is_gt (tree_cmp a b) ≡ o → constant a ≡ None → constant b ≡ None → tree_eq a b ≡ false → literals_same (literal_of a) (literal_of b) ≡ None → Is sort.Bool (equation o a b)
      ordered false q i j e l =
          judged.of_equal k a b g h (both_true (two_stay a b i j e) (both_true (other_there (literal_of a) (literal_of b) l) (not_is_false (is_gt (tree_cmp a b)) q)))
      ordered true q i j e l =
          let less = turned (tree_cmp a b) (tree_cmp b a) (tree_cmp_total.antisymm b a) q in
          let there = other_there (literal_of b) (literal_of a) (same_flip (literal_of a) (literal_of b) l) in
          judged.of_equal k b a h g (both_true (two_stay b a j i (level_differs b a less.1)) (both_true there (not_is_false (is_gt (tree_cmp b a)) less.0)))

      other : (s : Bool) (l : Option Bool) → tree_eq a b ≡ s → literals_same (literal_of a) (literal_of b) ≡ l → constant a ≡ None → constant b ≡ None → Is sort.Bool (other_equal s l a b)
      other true l e f i j = judged.of_truth true
      other false (Some same) e f i j = judged.of_truth same
      other false None e f i j = ordered (is_gt (tree_cmp a b)) refl i j e f

      by : (c e : Option Bool) → constant a ≡ c → constant b ≡ e → Is sort.Bool (equal_by c e a b)
      by (Some true) e i j = subst (λ (z : Sort). Is z b) (bool_of k a true g i) h
      by (Some false) e i j = not_made b (subst (λ (z : Sort). Is z b) (bool_of k a false g i) h)
      by None (Some true) i j = subst (λ (z : Sort). Is z a) (bool_of k b true h j) g
      by None (Some false) i j = not_made a (subst (λ (z : Sort). Is z a) (bool_of k b false h j) g)
      by None None i j = other (tree_eq a b) (literals_same (literal_of a) (literal_of b)) refl refl i j

  -- the fields of a record term
  fields_inside : (k : Sort) (t : Tree) (ts : Trees) → Is k t → t ≡ many manys.Record ts → HaveFields d env written (fields_in (out-Sort k)) ts
  fields_inside _ _ ts (judged.of_record fs us i h) e =
      let same : us ≡ ts = cc in
      subst (HaveFields d env written (fields_in (out-Sort (sort.Record fs)))) same (subst (λ (gs : SortFields). HaveFields d env written gs us) (sym (ap fields_in (out_Record fs))) h)
  fields_inside _ _ ts _ e = absurd cc

  found_by : (k l : Sort) (t u : Tree) (b : Bool) (p : Option Sort) (q : Option Tree) → cond b (Some l) p ≡ Some k → cond b (Some t) q ≡ Some u → Is l t → (p ≡ Some k → q ≡ Some u → Is k u) → Is k u
  found_by k l t u true p q i j h later = let sorts : l ≡ k = cc in let trees : t ≡ u = cc in subst (λ (z : Sort). Is z u) sorts (subst (Is l) trees h)
  found_by k l t u false p q i j h later = later i j

  found_made : (fs : SortFields) (ts : Trees) (name : List ℕ) (k : Sort) (u : Tree) → HaveFields d env written fs ts → lookup (bytes_eq name) fs ≡ Some k → among_parts name ts ≡ Some u → Is k u
  found_made _ _ name k u judged.no_field e f = cc
  found_made _ _ name k u (judged.with_field other l gs t us h more) e f =
      found_by k l t u (bytes_eq name other) (lookup (bytes_eq name) gs) (lookup (bytes_eq name) (listed us)) e f h (found_made gs us name k u more)

  component_made : (fs : SortFields) (name : List ℕ) (k : Sort) (a u : Tree) → Is (sort.Record fs) a → lookup (bytes_eq name) fs ≡ Some k → component name a ≡ Some u → Is k u
  component_made fs name k (many manys.Record ts) u h e f =
      found_made fs ts name k u (subst (λ (gs : SortFields). HaveFields d env written gs ts) (ap fields_in (out_Record fs)) (fields_inside (sort.Record fs) (many manys.Record ts) ts h refl)) e f
  component_made fs name k (many (manys.Set s) ts) u h e f = cc
  component_made fs name k (leaf l) u h e f = cc
  component_made fs name k (one o a) u h e f = cc
  component_made fs name k (two o a b) u h e f = cc
  component_made fs name k (choice c a b) u h e f = cc

  pub field_made : (fs : SortFields) (name : List ℕ) (k : Sort) (a : Tree) → Is (sort.Record fs) a → lookup (bytes_eq name) fs ≡ Some k → Is k (field_term name a)
  unfolding field_term
  field_made fs name k a h e = by (component name a) refl
    where
      by : (o : Option Tree) → component name a ≡ o → Is k (field_by o name a)
      by (Some u) f = component_made fs name k a u h e f
      by None f = judged.of_field fs name k a h e (lacking (component name a) f)

  pub present_made : (k : Sort) (a : Tree) → Is (sort.Option k) a → Is sort.Bool (present_term a)
  unfolding present_term
  present_made k a h = by (absent a) refl
    where
      by : (o : Option Sort) → absent a ≡ o → Is sort.Bool (present_by o a)
      by (Some held) e = judged.of_truth false
      by None e = judged.of_present k a h (lacking (absent a) e)

  pub bit_made : (k : Sort) (i : ℕ) (a : Tree) → HasPlace k i → Is k a → Is sort.Bool (bit_term a i)
  unfolding bit_term
  bit_made k i a p h = by (literal_of a) refl
    where
      by : (o : Option Literal) → literal_of a ≡ o → Is sort.Bool (bit_by o a i)
      by (Some l) e = judged.of_truth _
      by None e = judged.of_bit k i a p h (lacking (literal_of a) e)

  pub like_made : (p : List Part) (a : Tree) → Is sort.String a → Is sort.Bool (like_term a p)
  unfolding like_term
  like_made p a h = by (literal_of a) refl
    where
      by : (o : Option Literal) → literal_of a ≡ o → Is sort.Bool (like_by o a p)
      by (Some l) e = judged.of_truth _
      by None e = judged.of_like p a h (lacking (literal_of a) e)

  pub all_made : (ts : List Tree) → All (Is sort.Bool) ts → Is sort.Bool (all_of ts)
  all_made ts h = joined_keeps (Is sort.Bool) and_term (truth_term true) (judged.of_truth true) and_made _ ts h

  pub any_made : (ts : List Tree) → All (Is sort.Bool) ts → Is sort.Bool (any_of ts)
  any_made ts h = joined_keeps (Is sort.Bool) or_term (truth_term false) (judged.of_truth false) or_made _ ts h
