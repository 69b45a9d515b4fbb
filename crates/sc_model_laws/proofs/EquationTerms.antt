-- What equations fold to, and the truth of what folds under an assignment.
use Rattle.std.proofs.Common.{◌≡◌, Bool, true, false, not, Option, Some, None, refl, sym, ap, ◌∙◌, subst}
use Rattle.std.specs.Ordering.{is_eq, is_gt, ordering_reverse}
use Rattle.std.specs.declared.cmp.Ordering.{Ordering}
use Rattle.std.specs.declared.cmp.Ordering.TheVariants.{Less, Equal, Greater}
use Rattle.sc_sorts.specs.Literals.{same_entity}
use Rattle.sc_sorts.specs.declared.node.Leaf.TheVariants as leafs
use Rattle.sc_sorts.specs.declared.node.Literal.{Literal}
use Rattle.sc_sorts.specs.declared.node.UnaryOp.TheVariants as unary
use Rattle.sc_sorts.specs.declared.node.BinaryOp.TheVariants as binary
use Rattle.sc_sorts.specs.declared.node.BinaryOp.{BinaryOp}
use Rattle.sc_terms.proofs.EqualLaws.{constant_is}
use Rattle.sc_terms.specs.Trees.{Tree, leaf, one, two, choice, many}
use Rattle.sc_terms.specs.Order.{tree_cmp, tree_eq}
use Rattle.sc_terms.specs.Folds.{constant, truth_term, literal_term, literal_of, literals_same, under_not, not_by, not_term, equal_term, other_equal, equation}
use Rattle.sc_terms.proofs.OrderLaws.{tree_cmp_total, tree_eq-exact}
use Rattle.sc_terms.proofs.FoldValues.{under}
use Rattle.sc_rule_laws.proofs.EquationLaws.{no_constant}
use Rattle.sc_model_laws.specs.Assignments.{Assignment, lit}

-- ---- literals

pub literal_is : (a : Tree) (l : Literal) → literal_of a ≡ Some l → a ≡ literal_term l
literal_is (leaf (leafs.Literal k)) l e = let f : k ≡ l = cc in ap literal_term f
literal_is (leaf (leafs.None s)) l e = absurd cc
literal_is (leaf (leafs.Principal s)) l e = absurd cc
literal_is (leaf (leafs.Resource s)) l e = absurd cc
literal_is (leaf (leafs.Context s)) l e = absurd cc
literal_is (one o x) l e = absurd cc
literal_is (two o x y) l e = absurd cc
literal_is (choice c x y) l e = absurd cc
literal_is (many o ts) l e = absurd cc

-- ---- an equation is the same in either order of its sides, where these aren't both literals

turned_by : (o : Ordering) (a b : Tree) → tree_cmp b a ≡ o → tree_cmp a b ≡ ordering_reverse o
    → other_equal (is_eq (tree_cmp a b)) None a b ≡ other_equal (is_eq (tree_cmp b a)) None b a
turned_by Less a b e f =
    let g : equation (is_gt (tree_cmp a b)) a b ≡ equation (is_gt (tree_cmp b a)) b a = rw (e, f) refl in rw (e, f) g
turned_by Equal a b e f = rw (e, f) refl
turned_by Greater a b e f =
    let g : equation (is_gt (tree_cmp a b)) a b ≡ equation (is_gt (tree_cmp b a)) b a = rw (e, f) refl in rw (e, f) g

pub equal_plain : (a b : Tree) → constant a ≡ None → constant b ≡ None
    → equal_term a b ≡ other_equal (tree_eq a b) (literals_same (literal_of a) (literal_of b)) a b
unfolding equal_term
equal_plain a b e f = rw (e, f) refl

other_turned : (a b : Tree) → other_equal (tree_eq a b) None a b ≡ other_equal (tree_eq b a) None b a
unfolding tree_eq
other_turned a b = turned_by (tree_cmp b a) a b refl (tree_cmp_total.antisymm a b)

second_none : (o : Option Literal) → literals_same o None ≡ None
second_none None = refl
second_none (Some l) = refl

pub equal_sym : (a b : Tree) → literal_of a ≡ None → constant b ≡ None → equal_term a b ≡ equal_term b a
equal_sym a b e f =
    let back : literals_same (literal_of b) (literal_of a) ≡ None = ap (literals_same (literal_of b)) e ∙ second_none (literal_of b) in
    equal_plain a b (no_constant a e) f
    ∙ ap (λ (o : Option Literal). other_equal (tree_eq a b) (literals_same o (literal_of b)) a b) e
    ∙ other_turned a b
    ∙ ap (λ (o : Option Bool). other_equal (tree_eq b a) o b a) (sym back)
    ∙ sym (equal_plain b a f (no_constant a e))

-- what the equation of two terms that are no truth values is
pub data Equation (a b : Tree) : Tree → Type 0 where
  is_one : a ≡ b → Equation a b (truth_term true)
  are_literals : (k l : Literal) → a ≡ literal_term k → b ≡ literal_term l → Equation a b (truth_term (same_entity k l))
  is_straight : equal_term a b ≡ two binary.Equal a b → Equation a b (two binary.Equal a b)
  is_turned : equal_term b a ≡ two binary.Equal b a → Equation a b (two binary.Equal b a)

plain_equation : (a b : Tree) (t g : Bool) → tree_eq a b ≡ t → is_gt (tree_cmp a b) ≡ g
    → equal_term a b ≡ other_equal (tree_eq a b) None a b → equal_term a b ≡ equal_term b a → Equation a b (other_equal (tree_eq a b) None a b)
plain_equation a b true g e f is turn =
    subst (λ (s : Bool). Equation a b (other_equal s None a b)) (sym e) (is_one (tree_eq-exact a b e))
plain_equation a b false true e f is turn =
    let p : other_equal (tree_eq a b) None a b ≡ two binary.Equal b a =
    ap (λ (s : Bool). other_equal s None a b) e ∙ ap (λ (g : Bool). equation g a b) f in
    subst (Equation a b) (sym p) (is_turned (sym turn ∙ is ∙ p))
plain_equation a b false false e f is turn =
    let p : other_equal (tree_eq a b) None a b ≡ two binary.Equal a b =
    ap (λ (s : Bool). other_equal s None a b) e ∙ ap (λ (g : Bool). equation g a b) f in
    subst (Equation a b) (sym p) (is_straight (is ∙ p))

literal_equation : (a b : Tree) (k l : Literal) (t : Bool) → literal_of a ≡ Some k → literal_of b ≡ Some l → tree_eq a b ≡ t
    → Equation a b (other_equal t (Some (same_entity k l)) a b)
literal_equation a b k l true e f g = is_one (tree_eq-exact a b g)
literal_equation a b k l false e f g = are_literals k l (literal_is a k e) (literal_is b l f)

pub equation_of : (a b : Tree) → constant a ≡ None → constant b ≡ None → Equation a b (equal_term a b)
equation_of a b c d = by (literal_of a) (literal_of b) refl refl where
  by : (o p : Option Literal) → literal_of a ≡ o → literal_of b ≡ p → Equation a b (equal_term a b)
  by (Some k) (Some l) e f =
      let is : equal_term a b ≡ other_equal (tree_eq a b) (Some (same_entity k l)) a b =
      equal_plain a b c d ∙ (λ i. other_equal (tree_eq a b) (literals_same (e i) (f i)) a b) in
      subst (Equation a b) (sym is) (literal_equation a b k l (tree_eq a b) e f refl)
  by None p e f =
      let is : equal_term a b ≡ other_equal (tree_eq a b) None a b =
      equal_plain a b c d ∙ ap (λ (o : Option Literal). other_equal (tree_eq a b) (literals_same o (literal_of b)) a b) e in
      subst (Equation a b) (sym is) (plain_equation a b (tree_eq a b) (is_gt (tree_cmp a b)) refl refl is (equal_sym a b e d))
  by (Some k) None e f =
      let none : literals_same (literal_of a) (literal_of b) ≡ None = ap (literals_same (literal_of a)) f ∙ second_none (literal_of a) in
      let is : equal_term a b ≡ other_equal (tree_eq a b) None a b =
      equal_plain a b c d ∙ ap (λ (o : Option Bool). other_equal (tree_eq a b) o a b) none in
      subst (Equation a b) (sym is) (plain_equation a b (tree_eq a b) (is_gt (tree_cmp a b)) refl refl is (sym (equal_sym b a f c)))

-- ---- under an assignment

module _ (m : Assignment) where
  pub lit_truth : (b : Bool) → lit m (truth_term b) ≡ b
  unfolding lit
  lit_truth b = refl

  pub lit_constant : (a : Tree) (b : Bool) → constant a ≡ Some b → lit m a ≡ b
  lit_constant a b e = ap (lit m) (constant_is a b e) ∙ lit_truth b

  pub lit_two : (o : BinaryOp) (a b : Tree) → lit m (two o a b) ≡ m (two o a b)
  unfolding lit
  lit_two o a b = refl

  twice : (b : Bool) → b ≡ not (not b)
  twice true = refl
  twice false = refl

  not_under : (a : Tree) (o : Option Bool) (u : Option Tree) → constant a ≡ o → under_not a ≡ u → lit m (not_by o u a) ≡ not (lit m a)
  unfolding lit
  not_under a (Some b) u e f = ap not (sym (lit_constant a b e))
  not_under a None (Some x) e f = twice (lit m x) ∙ ap (λ (z : Tree). not (lit m z)) (sym (under a x f))
  not_under a None None e f = refl

  pub lit_not : (a : Tree) → lit m (not_term a) ≡ not (lit m a)
  unfolding not_term
  lit_not a = not_under a (constant a) (under_not a) refl refl

  pub lit_negation : (a : Tree) → lit m (one unary.Not a) ≡ not (lit m a)
  unfolding lit
  lit_negation a = refl
