-- What equations say in a world: that two terms have one value, whatever they fold to.
use Rattle.std.proofs.Common.{◌≡◌, Bool, true, false, Option, Some, None, refl, sym, ap, ◌∙◌, subst}
use Rattle.sc_values.specs.declared.value.Value.{Value}
use Rattle.sc_world.specs.declared.world.World.{World}
use Rattle.sc_sorts.specs.declared.node.Leaf.TheVariants as leafs
use Rattle.sc_terms.specs.Trees.{Tree, leaf}
use Rattle.sc_terms.specs.Folds.{constant, equal_term, literal_of}
use Rattle.sc_terms.specs.Values.{Val, yes, val, seen, truth, not_seen, not_value, option_eq, val_eq, equal_seen, equal_value}
use Rattle.sc_terms.proofs.FoldValues.{seen_yes, seen_is, truth_yes, truth_unseen}
use Rattle.sc_terms.proofs.EqualValues.{value_eq-exact, val_eq-same, equal_is, equal_bools, equal_others, val_eq-exact}
use Rattle.sc_rule_laws.specs.Signed.{is_true}

-- ---- constants

-- what is no literal is no constant
pub no_constant : (x : Tree) → literal_of x ≡ None → constant x ≡ None
no_constant (leaf (leafs.Literal l)) h = absurd cc
no_constant _ h = refl

-- ---- one value

option_exact : (o p : Option Value) → option_eq o p ≡ true → o ≡ p
option_exact None None e = refl
option_exact None (Some y) e = absurd cc
option_exact (Some x) None e = absurd cc
option_exact (Some x) (Some y) e = ap Some (value_eq-exact x y e)

pub val_same : (x y : Val) → x ≡ y → val_eq x y ≡ true
val_same x y e = subst (λ (z : Val). val_eq x z ≡ true) e (val_eq-same x)

-- ---- equations of values of any kinds

not_unseen : (y : Val) → seen y ≡ None → not_value y ≡ y
unfolding not_value
not_unseen y f = ap (λ (o : Option Bool). not_seen o y) f

-- no truth value is what is seen as none
apart : (b : Bool) (y : Val) → seen y ≡ None → val_eq (yes b) y ≡ false
apart b y f = by (val_eq (yes b) y) refl
  where
    by : (c : Bool) → val_eq (yes b) y ≡ c → c ≡ false
    by false e = refl
    by true e =
        let both : Some b ≡ None = sym (seen_yes b) ∙ ap seen (val_eq-exact (yes b) y e) ∙ f in
        absurd cc

apart_turned : (x : Val) (c : Bool) → seen x ≡ None → val_eq x (yes c) ≡ false
apart_turned x c f = by (val_eq x (yes c)) refl
  where
    by : (d : Bool) → val_eq x (yes c) ≡ d → d ≡ false
    by false e = refl
    by true e =
        let both : Some c ≡ None = sym (seen_yes c) ∙ ap seen (sym (val_eq-exact x (yes c) e)) ∙ f in
        absurd cc

of_first : (b : Bool) (y : Val) → seen y ≡ None → truth (equal_value (yes b) y) ≡ false
unfolding equal_value
of_first true y f = ap (λ (o : Option Bool). truth (equal_seen o (seen y) (yes true) y)) (seen_yes true) ∙ truth_unseen y f
of_first false y f =
    ap (λ (o : Option Bool). truth (equal_seen o (seen y) (yes false) y)) (seen_yes false) ∙ ap truth (not_unseen y f) ∙ truth_unseen y f

of_second : (x : Val) (c : Bool) → seen x ≡ None → truth (equal_value x (yes c)) ≡ false
unfolding equal_value
of_second x true f = rw (f, seen_yes true) (truth_unseen x f)
of_second x false f = rw (f, seen_yes false) (ap truth (not_unseen x f) ∙ truth_unseen x f)

-- an equation is true just where its sides are one
pub equal_truth : (x y : Val) → truth (equal_value x y) ≡ val_eq x y
equal_truth x y = by (seen x) (seen y) refl refl
  where
    by : (o p : Option Bool) → seen x ≡ o → seen y ≡ p → truth (equal_value x y) ≡ val_eq x y
    by (Some b) (Some c) e f = rw (seen_is x b e, seen_is y c f) (ap truth (equal_bools b c) ∙ truth_yes _)
    by (Some b) None e f = rw (seen_is x b e) (of_first b y f ∙ sym (apart b y f))
    by None (Some c) e f = rw (seen_is y c f) (of_second x c e ∙ sym (apart_turned x c e))
    by None None e f = ap truth (equal_others x y e f) ∙ truth_yes _

-- ---- the term of an equation

module _ (w : World) where
  pub equality : (a b : Tree) → is_true (equal_term a b) w ≡ val_eq (val a w) (val b w)
  equality a b = ap truth (equal_is a b w) ∙ equal_truth (val a w) (val b w)

  pub is_equal : (a b : Tree) → is_true (equal_term a b) w ≡ true → val a w ≡ val b w
  is_equal a b e = val_eq-exact (val a w) (val b w) (sym (equality a b) ∙ e)

  pub equal_so : (a b : Tree) → val a w ≡ val b w → is_true (equal_term a b) w ≡ true
  equal_so a b e = equality a b ∙ val_same (val a w) (val b w) e
