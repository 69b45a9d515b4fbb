-- The values of folded terms: what the plain term has.
use Rattle.std.proofs.Common.{◌≡◌, ℕ, Bool, true, false, not, cond, ◌&&◌, ◌||◌, Option, Some, None, unwrap_or, List, Result, Ok, Err, IfOk, refl, sym, ap, ◌∙◌}
use Rattle.sc_values.specs.declared.value.Value.{Value, Value-F, out-Value, roll-Value, roll-out-Value}
use Rattle.sc_values.specs.declared.value.Value.TheOpen as v
use Rattle.sc_values.specs.declared.value.Value.TheVariants.{rolls-Bool}
use Rattle.sc_values.proofs.OutLaws.{out_Bool, out_Long, out_Decimal, out_Ip, out_String, out_Entity}
use Rattle.sc_world.specs.declared.world.World.{World}
use Rattle.sc_sorts.specs.declared.sort.Sort.{Sort}
use Rattle.sc_sorts.specs.declared.node.Leaf.TheVariants as leafs
use Rattle.sc_sorts.specs.declared.node.Literal.{Literal}
use Rattle.sc_sorts.specs.declared.node.Literal.TheVariants as literal
use Rattle.sc_sorts.specs.declared.node.UnaryOp.TheVariants as unary
use Rattle.sc_sorts.specs.declared.node.Node.{Node}
use Rattle.sc_sorts.specs.declared.node.Leaf.{Leaf}
use Rattle.sc_sorts.specs.declared.node.UnaryOp.{UnaryOp}
use Rattle.sc_sorts.specs.declared.node.BinaryOp.{BinaryOp}
use Rattle.sc_sorts.specs.declared.node.ManyOp.{ManyOp}
use Rattle.sc_sorts.specs.Literals.{literal_bit, literal_like}
use Rattle.sc_pattern.specs.declared.part.Part.{Part}
use Rattle.sc_terms.specs.Tables.{StandsFor}
use Rattle.sc_terms.specs.TreeSorts.{tree_sort}
use Rattle.sc_terms.specs.Trees.{Tree, leaf, one, two, choice, many, Trees}
use Rattle.sc_terms.specs.Order.{tree_eq}
use Rattle.sc_terms.specs.Folds.{constant, under_not, not_by, not_term, and_by, and_term, or_by, or_term, choice_by, choice_term, absent, present_by, present_term, literal_of, bit_by, bit_term, like_by, like_term, truth_term}
use Rattle.sc_terms.specs.Values.{Val, it, maybe, yes, truth, val, bool_seen, bit_seen, literal_value, seen, not_seen, not_value, and_seen, and_value, or_seen, or_value, choice_value, like_seen, leaf_value, one_value, two_value, many_value, operands, vals, HasValue}
use Rattle.sc_terms.proofs.OrderLaws.{tree_eq-exact}

-- ---- truth values

pub constant_value : (a : Tree) (b : Bool) (w : World) → constant a ≡ Some b → val a w ≡ yes b
unfolding val
constant_value (leaf (leafs.Literal (literal.Bool c))) b w h = let e : c ≡ b = cc in ap yes e
constant_value (leaf (leafs.Literal (literal.Long n))) b w h = cc
constant_value (leaf (leafs.Literal (literal.String x))) b w h = cc
constant_value (leaf (leafs.Literal (literal.Decimal n))) b w h = cc
constant_value (leaf (leafs.Literal (literal.Ip x))) b w h = cc
constant_value (leaf (leafs.Literal (literal.Entity u us))) b w h = cc
constant_value (leaf (leafs.None s)) b w h = cc
constant_value (leaf (leafs.Principal s)) b w h = cc
constant_value (leaf (leafs.Resource s)) b w h = cc
constant_value (leaf (leafs.Context s)) b w h = cc
constant_value (one o a) b w h = cc
constant_value (two o c d) b w h = cc
constant_value (choice c d e) b w h = cc
constant_value (many o ts) b w h = cc

pub seen_yes : (b : Bool) → seen (yes b) ≡ Some b
seen_yes b = ap bool_seen (out_Bool b)

pub truth_yes : (b : Bool) → truth (yes b) ≡ b
unfolding truth
truth_yes b = ap (λ (o : Option Bool). unwrap_or o false) (seen_yes b)

seen_in : (x : Value-F Value) (b : Bool) → bool_seen x ≡ Some b → x ≡ v.Bool b
seen_in (v.Bool c) b h = cc
seen_in (v.Long n) b h = cc
seen_in (v.String t) b h = cc
seen_in (v.Entity u) b h = cc
seen_in (v.Set xs) b h = cc
seen_in (v.Record fs) b h = cc
seen_in (v.Decimal n) b h = cc
seen_in (v.Ip p) b h = cc

-- what is seen as a truth value is one
pub seen_is : (x : Val) (b : Bool) → seen x ≡ Some b → x ≡ yes b
seen_is (it x) b h = ap it (sym (roll-out-Value x) ∙ ap roll-Value (seen_in (out-Value x) b h) ∙ rolls-Bool b)
seen_is (maybe o) b h = cc

-- terms that are one have one value
pub same_value : (a b : Tree) (w : World) → tree_eq a b ≡ true → val a w ≡ val b w
same_value a b w h = ap (λ (t : Tree). val t w) (tree_eq-exact a b h)

-- ---- negations

pub not_yes : (b : Bool) → not_value (yes b) ≡ yes (not b)
unfolding not_value
not_yes b = ap (λ (o : Option Bool). not_seen o (yes b)) (seen_yes b)

not_twice : (x : Val) → x ≡ not_value (not_value x)
unfolding not_value
not_twice x = by (seen x) refl
  where
    twice : (b : Bool) → b ≡ not (not b)
    twice true = refl
    twice false = refl

    by : (o : Option Bool) → seen x ≡ o → x ≡ not_seen (seen (not_seen o x)) (not_seen o x)
    by (Some b) e = rw (seen_yes (not b)) (seen_is x b e ∙ ap yes (twice b))
    by None e = rw e refl

pub under : (a b : Tree) → under_not a ≡ Some b → a ≡ one unary.Not b
under (one unary.Not t) b e = cc
under (one (unary.Bit i) t) b e = cc
under (one (unary.CarryIn i) t) b e = cc
under (one (unary.ProductRow i j) t) b e = cc
under (one (unary.ProductCarry i j) t) b e = cc
under (one (unary.Attributes s) t) b e = cc
under (one (unary.Ancestors s) t) b e = cc
under (one unary.Keys t) b e = cc
under (one (unary.Field n) t) b e = cc
under (one unary.Present t) b e = cc
under (one unary.Held t) b e = cc
under (one (unary.Like p) t) b e = cc
under (leaf l) b e = cc
under (two o c d) b e = cc
under (choice c d f) b e = cc
under (many o ts) b e = cc

pub not_is : (a : Tree) (w : World) → val (not_term a) w ≡ not_value (val a w)
unfolding not_term val not_value
not_is a w = by (constant a) (under_not a) refl refl
  where
    const : (b : Bool) → yes (not b) ≡ not_seen (seen (yes b)) (yes b)
    const b = rw (seen_yes b) refl

    by : (c : Option Bool) (u : Option Tree) → constant a ≡ c → under_not a ≡ u → val (not_by c u a) w ≡ not_value (val a w)
    by (Some b) u e f = rw (constant_value a b w e) (const b)
    by None (Some b) e f = rw (under a b f) (not_twice (val b w))
    by None None e f = refl

-- ---- both, one, and choices

module _ (a b : Tree) (w : World) where
  pub and_is : val (and_term a b) w ≡ and_value (val a w) (val b w)
  unfolding and_term val and_value
  and_is = by (constant a) (constant b) (tree_eq a b) refl refl refl
    where
      right : (c : Bool) (o : Option Bool) → seen (val a w) ≡ o → and_seen o (Some c) (val a w) (yes c) ≡ cond c (val a w) (yes false)
      right true (Some true) e = sym (seen_is (val a w) true e)
      right false (Some true) e = refl
      right true (Some false) e = refl
      right false (Some false) e = seen_is (val a w) false e
      right true None e = refl
      right false None e = refl

      itself : (o p : Option Bool) (x : Val) → x ≡ and_seen o p x x
      itself (Some true) p x = refl
      itself (Some false) p x = refl
      itself None (Some true) x = refl
      itself None (Some false) x = refl
      itself None None x = refl

      by : (c d : Option Bool) (s : Bool) → constant a ≡ c → constant b ≡ d → tree_eq a b ≡ s → val (and_by c d s a b) w ≡ and_seen (seen (val a w)) (seen (val b w)) (val a w) (val b w)
      by (Some true) d s e f g = rw (constant_value a true w e, seen_yes true) refl
      by (Some false) d s e f g = rw (constant_value a false w e, seen_yes false) refl
      by None (Some true) s e f g = rw (constant_value b true w f, seen_yes true) (sym (right true (seen (val a w)) refl))
      by None (Some false) s e f g = rw (constant_value b false w f, seen_yes false) (sym (right false (seen (val a w)) refl))
      by None None true e f g = rw (← same_value a b w g) (itself (seen (val a w)) (seen (val a w)) (val a w))
      by None None false e f g = refl

  pub or_is : val (or_term a b) w ≡ or_value (val a w) (val b w)
  unfolding or_term val or_value
  or_is = by (constant a) (constant b) (tree_eq a b) refl refl refl
    where
      right : (c : Bool) (o : Option Bool) → seen (val a w) ≡ o → or_seen o (Some c) (val a w) (yes c) ≡ cond c (yes true) (val a w)
      right true (Some true) e = seen_is (val a w) true e
      right false (Some true) e = refl
      right true (Some false) e = refl
      right false (Some false) e = sym (seen_is (val a w) false e)
      right true None e = refl
      right false None e = refl

      itself : (o p : Option Bool) (x : Val) → x ≡ or_seen o p x x
      itself (Some true) p x = refl
      itself (Some false) p x = refl
      itself None (Some true) x = refl
      itself None (Some false) x = refl
      itself None None x = refl

      by : (c d : Option Bool) (s : Bool) → constant a ≡ c → constant b ≡ d → tree_eq a b ≡ s → val (or_by c d s a b) w ≡ or_seen (seen (val a w)) (seen (val b w)) (val a w) (val b w)
      by (Some true) d s e f g = rw (constant_value a true w e, seen_yes true) refl
      by (Some false) d s e f g = rw (constant_value a false w e, seen_yes false) refl
      by None (Some true) s e f g = rw (constant_value b true w f, seen_yes true) (sym (right true (seen (val a w)) refl))
      by None (Some false) s e f g = rw (constant_value b false w f, seen_yes false) (sym (right false (seen (val a w)) refl))
      by None None true e f g = rw (← same_value a b w g) (itself (seen (val a w)) (seen (val a w)) (val a w))
      by None None false e f g = refl

pub choice_is : (c a b : Tree) (w : World) → val (choice_term c a b) w ≡ choice_value (val c w) (val a w) (val b w)
unfolding choice_term val
choice_is c a b w = by (constant c) (tree_eq a b) refl refl
  where
    either : (p : Bool) (x y : Val) → x ≡ y → x ≡ cond p x y
    either true x y e = refl
    either false x y e = e

    by : (d : Option Bool) (s : Bool) → constant c ≡ d → tree_eq a b ≡ s → val (choice_by d s c a b) w ≡ cond (truth (val c w)) (val a w) (val b w)
    by (Some true) s e f = rw (constant_value c true w e, truth_yes true) refl
    by (Some false) s e f = rw (constant_value c false w e, truth_yes false) refl
    by None true e f = either (truth (val c w)) (val a w) (val b w) (same_value a b w f)
    by None false e f = refl

-- ---- whether values are true

pub truth_unseen : (x : Val) → seen x ≡ None → truth x ≡ false
unfolding truth
truth_unseen x h = ap (λ (o : Option Bool). unwrap_or o false) h

pub not_truth : (x : Val) (b : Bool) → seen x ≡ Some b → truth (not_value x) ≡ not (truth x)
not_truth x b e =
    ap (λ (z : Val). truth (not_value z)) (seen_is x b e) ∙ ap truth (not_yes b) ∙ truth_yes (not b)
    ∙ sym (ap (λ (z : Val). not (truth z)) (seen_is x b e) ∙ ap not (truth_yes b))

pub and_truth : (x y : Val) → truth (and_value x y) ≡ (truth x && truth y)
unfolding and_value
and_truth x y = by (seen x) (seen y) refl refl
  where
    by : (o p : Option Bool) → seen x ≡ o → seen y ≡ p → truth (and_seen o p x y) ≡ (truth x && truth y)
    by (Some true) p e f = rw (seen_is x true e, truth_yes true) refl
    by (Some false) p e f = rw (seen_is x false e, truth_yes false) refl
    by None (Some true) e f = rw (truth_unseen x e) refl
    by None (Some false) e f = rw (truth_unseen x e, seen_is y false f, truth_yes false) refl
    by None None e f = rw (truth_unseen x e) refl

pub or_truth : (x y : Val) → truth (or_value x y) ≡ (truth x || truth y)
unfolding or_value
or_truth x y = by (seen x) (seen y) refl refl
  where
    by : (o p : Option Bool) → seen x ≡ o → seen y ≡ p → truth (or_seen o p x y) ≡ (truth x || truth y)
    by (Some true) p e f = rw (seen_is x true e, truth_yes true) refl
    by (Some false) p e f = rw (seen_is x false e, truth_yes false) refl
    by None (Some true) e f = rw (truth_unseen x e) refl
    by None (Some false) e f = rw (truth_unseen x e, seen_is y false f, truth_yes false) refl
    by None None e f = rw (truth_unseen x e, truth_unseen y f) refl

-- ---- options, bits and patterns

absent_is : (a : Tree) (held : Sort) (w : World) → absent a ≡ Some held → val a w ≡ maybe None
unfolding val
absent_is (leaf (leafs.None s)) held w h = refl
absent_is (leaf (leafs.Literal l)) held w h = cc
absent_is (leaf (leafs.Principal s)) held w h = cc
absent_is (leaf (leafs.Resource s)) held w h = cc
absent_is (leaf (leafs.Context s)) held w h = cc
absent_is (one o a) held w h = cc
absent_is (two o a b) held w h = cc
absent_is (choice c a b) held w h = cc
absent_is (many o ts) held w h = cc

pub present_is : (a : Tree) (w : World) → val (present_term a) w ≡ val (one unary.Present a) w
unfolding present_term val
present_is a w = by (absent a) refl
  where
    by : (o : Option Sort) → absent a ≡ o → val (present_by o a) w ≡ val (one unary.Present a) w
    by (Some held) e = rw (absent_is a held w e) refl
    by None e = refl

pub literal_is : (a : Tree) (l : Literal) (w : World) → literal_of a ≡ Some l → val a w ≡ it (literal_value l)
unfolding val
literal_is (leaf (leafs.Literal m)) l w h = let e : m ≡ l = cc in ap (λ (z : Literal). it (literal_value z)) e
literal_is (leaf (leafs.None s)) l w h = cc
literal_is (leaf (leafs.Principal s)) l w h = cc
literal_is (leaf (leafs.Resource s)) l w h = cc
literal_is (leaf (leafs.Context s)) l w h = cc
literal_is (one o a) l w h = cc
literal_is (two o a b) l w h = cc
literal_is (choice c a b) l w h = cc
literal_is (many o ts) l w h = cc

bits_are : (l : Literal) (i : ℕ) → literal_bit l i ≡ bit_seen (out-Value (literal_value l)) i
bits_are (literal.Bool b) i = ap (λ (z : Value-F Value). bit_seen z i) (sym (out_Bool b))
bits_are (literal.Long n) i = ap (λ (z : Value-F Value). bit_seen z i) (sym (out_Long n))
bits_are (literal.String x) i = ap (λ (z : Value-F Value). bit_seen z i) (sym (out_String x))
bits_are (literal.Decimal n) i = ap (λ (z : Value-F Value). bit_seen z i) (sym (out_Decimal n))
bits_are (literal.Ip x) i = ap (λ (z : Value-F Value). bit_seen z i) (sym (out_Ip x))
bits_are (literal.Entity u us) i = ap (λ (z : Value-F Value). bit_seen z i) (sym (out_Entity u))

pub bit_is : (a : Tree) (i : ℕ) (w : World) → val (bit_term a i) w ≡ val (one (unary.Bit i) a) w
unfolding bit_term val
bit_is a i w = by (literal_of a) refl
  where
    by : (o : Option Literal) → literal_of a ≡ o → val (bit_by o a i) w ≡ val (one (unary.Bit i) a) w
    by (Some l) e = rw (literal_is a l w e) (ap yes (bits_are l i))
    by None e = refl

likes_are : (l : Literal) (p : List Part) → literal_like l p ≡ like_seen (out-Value (literal_value l)) p
likes_are (literal.Bool b) p = ap (λ (z : Value-F Value). like_seen z p) (sym (out_Bool b))
likes_are (literal.Long n) p = ap (λ (z : Value-F Value). like_seen z p) (sym (out_Long n))
likes_are (literal.String x) p = ap (λ (z : Value-F Value). like_seen z p) (sym (out_String x))
likes_are (literal.Decimal n) p = ap (λ (z : Value-F Value). like_seen z p) (sym (out_Decimal n))
likes_are (literal.Ip x) p = ap (λ (z : Value-F Value). like_seen z p) (sym (out_Ip x))
likes_are (literal.Entity u us) p = ap (λ (z : Value-F Value). like_seen z p) (sym (out_Entity u))

pub like_is : (a : Tree) (p : List Part) (w : World) → val (like_term a p) w ≡ val (one (unary.Like p) a) w
unfolding like_term val
like_is a p w = by (literal_of a) refl
  where
    by : (o : Option Literal) → literal_of a ≡ o → val (like_by o a p) w ≡ val (one (unary.Like p) a) w
    by (Some l) e = rw (literal_is a l w e) (ap yes (likes_are l p))
    by None e = refl

-- ---- terms of which nothing folds

pub truth_is : (b : Bool) (w : World) → val (truth_term b) w ≡ yes b
unfolding val
truth_is b w = refl

pub leaf_is : (l : Leaf) (w : World) → val (leaf l) w ≡ leaf_value l w
unfolding val
leaf_is l w = refl

pub one_is : (o : UnaryOp) (a : Tree) (w : World) → val (one o a) w ≡ one_value o (tree_sort a) (operands a w) (val a w) w
unfolding val
one_is o a w = refl

pub two_is : (o : BinaryOp) (a b : Tree) (w : World) → val (two o a b) w ≡ two_value o (tree_sort a) (val a w) (val b w) w
unfolding val
two_is o a b w = refl

pub many_is : (o : ManyOp) (ts : Trees) (w : World) → val (many o ts) w ≡ many_value o (vals ts w)
unfolding val
many_is o ts w = refl

-- ---- the value of a number

pub has_value : (xs : List Node) (n : ℕ) (t : Tree) (f : World → Val) → ((w : World) → val t w ≡ f w) → StandsFor xs n t → HasValue xs n f
has_value xs n t f same h = record { at = λ w. ap (λ (x : Tree). val x w) h.is ∙ same w }

pub valued : {E : Type 0} (xs : List Node) (r : Result ℕ E) (t : Tree) (f : World → Val) → ((w : World) → val t w ≡ f w) → IfOk r (λ n. StandsFor xs n t) → IfOk r (λ n. HasValue xs n f)
valued xs (Ok n) t f same h = has_value xs n t f same h
valued xs (Err e) t f same h = tt
