-- An equation is the same in either order of its sides.
use Rattle.std.proofs.Common.{◌≡◌, Bool, true, false, not, Option, Some, None, refl, sym, ap, ◌∙◌}
use Rattle.std.specs.Cmp.{IsTotalOrder}
use Rattle.std.specs.Ordering.{is_eq, is_gt, ordering_reverse}
use Rattle.std.specs.declared.cmp.Ordering.{Ordering}
use Rattle.std.specs.declared.cmp.Ordering.TheVariants.{Less, Equal, Greater}
use Rattle.sc_names.specs.Uids.{uid_cmp}
use Rattle.sc_names.proofs.UidLaws.{uid_cmp_total}
use Rattle.sc_sorts.specs.Literals.{same_entity}
use Rattle.sc_sorts.specs.declared.node.Leaf.TheVariants as leafs
use Rattle.sc_sorts.specs.declared.node.Literal.{Literal}
use Rattle.sc_sorts.specs.declared.node.Literal.TheVariants as literals
use Rattle.sc_terms.specs.Trees.{Tree, leaf, one, two, choice, many}
use Rattle.sc_terms.specs.Order.{tree_cmp, tree_eq}
use Rattle.sc_terms.specs.Folds.{constant, truth_term, literal_of, literals_same, not_term, equal_by, equal_term, other_equal, equation}

eq_turned : (o p : Ordering) → p ≡ ordering_reverse o → is_eq o ≡ is_eq p
eq_turned Less p e = sym (ap is_eq e)
eq_turned Equal p e = sym (ap is_eq e)
eq_turned Greater p e = sym (ap is_eq e)

same_turned : (l m : Literal) → same_entity l m ≡ same_entity m l
same_turned (literals.Bool x) (literals.Bool y) = refl
same_turned (literals.Bool x) (literals.Long y) = refl
same_turned (literals.Bool x) (literals.String y) = refl
same_turned (literals.Bool x) (literals.Decimal y) = refl
same_turned (literals.Bool x) (literals.Ip y) = refl
same_turned (literals.Bool x) (literals.Entity v vs) = refl
same_turned (literals.Long x) (literals.Bool y) = refl
same_turned (literals.Long x) (literals.Long y) = refl
same_turned (literals.Long x) (literals.String y) = refl
same_turned (literals.Long x) (literals.Decimal y) = refl
same_turned (literals.Long x) (literals.Ip y) = refl
same_turned (literals.Long x) (literals.Entity v vs) = refl
same_turned (literals.String x) (literals.Bool y) = refl
same_turned (literals.String x) (literals.Long y) = refl
same_turned (literals.String x) (literals.String y) = refl
same_turned (literals.String x) (literals.Decimal y) = refl
same_turned (literals.String x) (literals.Ip y) = refl
same_turned (literals.String x) (literals.Entity v vs) = refl
same_turned (literals.Decimal x) (literals.Bool y) = refl
same_turned (literals.Decimal x) (literals.Long y) = refl
same_turned (literals.Decimal x) (literals.String y) = refl
same_turned (literals.Decimal x) (literals.Decimal y) = refl
same_turned (literals.Decimal x) (literals.Ip y) = refl
same_turned (literals.Decimal x) (literals.Entity v vs) = refl
same_turned (literals.Ip x) (literals.Bool y) = refl
same_turned (literals.Ip x) (literals.Long y) = refl
same_turned (literals.Ip x) (literals.String y) = refl
same_turned (literals.Ip x) (literals.Decimal y) = refl
same_turned (literals.Ip x) (literals.Ip y) = refl
same_turned (literals.Ip x) (literals.Entity v vs) = refl
same_turned (literals.Entity u us) (literals.Bool y) = refl
same_turned (literals.Entity u us) (literals.Long y) = refl
same_turned (literals.Entity u us) (literals.String y) = refl
same_turned (literals.Entity u us) (literals.Decimal y) = refl
same_turned (literals.Entity u us) (literals.Ip y) = refl
same_turned (literals.Entity u us) (literals.Entity v vs) = eq_turned (uid_cmp u v) (uid_cmp v u) (uid_cmp_total.antisymm v u)

literals_turned : (o p : Option Literal) → literals_same o p ≡ literals_same p o
literals_turned None None = refl
literals_turned None (Some m) = refl
literals_turned (Some l) None = refl
literals_turned (Some l) (Some m) = ap Some (same_turned l m)

-- a term that is a truth value
pub constant_is : (a : Tree) (b : Bool) → constant a ≡ Some b → a ≡ truth_term b
constant_is (leaf (leafs.Literal (literals.Bool c))) b e = let f : c ≡ b = cc in ap truth_term f
constant_is (leaf (leafs.Literal (literals.Long n))) b e = cc
constant_is (leaf (leafs.Literal (literals.String t))) b e = cc
constant_is (leaf (leafs.Literal (literals.Decimal n))) b e = cc
constant_is (leaf (leafs.Literal (literals.Ip x))) b e = cc
constant_is (leaf (leafs.Literal (literals.Entity u us))) b e = cc
constant_is (leaf (leafs.None s)) b e = cc
constant_is (leaf (leafs.Principal s)) b e = cc
constant_is (leaf (leafs.Resource s)) b e = cc
constant_is (leaf (leafs.Context s)) b e = cc
constant_is (one o x) b e = cc
constant_is (two o x y) b e = cc
constant_is (choice c x y) b e = cc
constant_is (many o ts) b e = cc

not_constant : (a : Tree) (b : Bool) → constant a ≡ Some b → not_term a ≡ truth_term (not b)
unfolding not_term
not_constant a b e = rw e refl

other_turned : (o : Ordering) (l : Option Bool) (a b : Tree) → tree_cmp b a ≡ o → tree_cmp a b ≡ ordering_reverse o
    → other_equal (is_eq (tree_cmp a b)) l a b ≡ other_equal (is_eq (tree_cmp b a)) l b a
other_turned Less (Some c) a b e f = rw (e, f) refl
other_turned Less None a b e f = let g : equation (is_gt (tree_cmp a b)) a b ≡ equation (is_gt (tree_cmp b a)) b a = rw (e, f) refl in rw (e, f) g
other_turned Equal l a b e f = rw (e, f) refl
other_turned Greater (Some c) a b e f = rw (e, f) refl
other_turned Greater None a b e f = let g : equation (is_gt (tree_cmp a b)) a b ≡ equation (is_gt (tree_cmp b a)) b a = rw (e, f) refl in rw (e, f) g

module _ (total : IsTotalOrder tree_cmp) where
  turned_by : (a b : Tree) (o p : Option Bool) → constant a ≡ o → constant b ≡ p → equal_by o p a b ≡ equal_by p o b a
  unfolding tree_eq
  turned_by a b (Some true) (Some true) e f = constant_is b true f ∙ sym (constant_is a true e)
  turned_by a b (Some true) (Some false) e f = constant_is b false f ∙ sym (not_constant a true e)
  turned_by a b (Some false) (Some true) e f = not_constant b true f ∙ sym (constant_is a false e)
  turned_by a b (Some false) (Some false) e f = not_constant b false f ∙ sym (not_constant a false e)
  turned_by a b (Some true) None e f = refl
  turned_by a b (Some false) None e f = refl
  turned_by a b None (Some true) e f = refl
  turned_by a b None (Some false) e f = refl
  turned_by a b None None e f =
      rw (literals_turned (literal_of a) (literal_of b)) (other_turned (tree_cmp b a) (literals_same (literal_of b) (literal_of a)) a b refl (total.antisymm a b))

  pub equal_turned : (a b : Tree) → equal_term a b ≡ equal_term b a
  unfolding equal_term
  equal_turned a b = turned_by a b (constant a) (constant b) refl refl
