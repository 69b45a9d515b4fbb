-- The values of equations.
use Rattle.std.proofs.Common.{◌≡◌, Bool, true, false, not, cond, [], Option, Some, None, refl, sym, ap, ◌∙◌, subst}
use Rattle.std.specs.Ordering.{is_eq, is_gt}
use Rattle.std.specs.Cmp.{Equal-is, tied_itself, both_ways}
use Rattle.sc_values.specs.declared.value.Value.{Value, Value-F, out-Value}
use Rattle.sc_values.specs.declared.value.Value.TheOpen as v
use Rattle.sc_values.specs.declared.value.Value.TheVariants as value
use Rattle.sc_names.specs.declared.uid.Uid.{Uid}
use Rattle.sc_names.specs.Uids.{uid_cmp}
use Rattle.sc_names.proofs.UidLaws.{uid_cmp_total, uid_cmp_level}
use Rattle.sc_values.specs.Order.{value_cmp}
use Rattle.sc_values.proofs.OrderLaws.{value_cmp_total, value_cmp_exact}
use Rattle.sc_values.proofs.OutLaws.{out_Bool, out_Long, out_String, out_Decimal, out_Ip, out_Entity}
use Rattle.sc_world.specs.declared.world.World.{World}
use Rattle.sc_sorts.specs.declared.node.Leaf.TheVariants as leafs
use Rattle.sc_sorts.specs.declared.node.Literal.{Literal}
use Rattle.sc_sorts.specs.declared.node.Literal.TheVariants as literal
use Rattle.sc_terms.specs.Trees.{Tree, leaf, one, two, choice, many}
use Rattle.sc_terms.specs.Order.{tree_eq, tree_cmp}
use Rattle.sc_sorts.specs.Literals.{same_entity}
use Rattle.sc_terms.specs.Folds.{constant, literal_of, literals_same, equation, other_equal, equal_by, equal_term}
use Rattle.sc_terms.specs.Values.{Val, it, maybe, yes, val, value_eq, option_eq, val_eq, seen, bool_seen, literal_value, not_value, equal_seen, equal_value}
use Rattle.sc_terms.proofs.OrderLaws.{tree_eq-itself}
use Rattle.sc_terms.proofs.FoldValues.{constant_value, seen_yes, seen_is, same_value, not_yes, not_is, literal_is}

-- ---- equality of values

pub value_eq-exact : (x y : Value) → value_eq x y ≡ true → x ≡ y
value_eq-exact x y h = value_cmp_exact x y ((Equal-is (value_cmp x y)).0 h)

pub value_eq-same : (x y : Value) → x ≡ y → value_eq x y ≡ true
value_eq-same x y e = subst (λ (z : Value). value_eq x z ≡ true) e (ap is_eq (tied_itself value_cmp_total x))

value_eq-flip : (x y : Value) → value_eq x y ≡ value_eq y x
value_eq-flip x y = both_ways (value_eq x y) (value_eq y x) (λ e. value_eq-same y x (sym (value_eq-exact x y e))) (λ e. value_eq-same x y (sym (value_eq-exact y x e)))

option_eq-same : (o : Option Value) → option_eq o o ≡ true
option_eq-same None = refl
option_eq-same (Some x) = value_eq-same x x refl

pub val_eq-same : (x : Val) → val_eq x x ≡ true
val_eq-same (it x) = value_eq-same x x refl
val_eq-same (maybe o) = option_eq-same o

option_eq-flip : (o p : Option Value) → option_eq o p ≡ option_eq p o
option_eq-flip None None = refl
option_eq-flip None (Some y) = refl
option_eq-flip (Some x) None = refl
option_eq-flip (Some x) (Some y) = value_eq-flip x y

val_eq-flip : (x y : Val) → val_eq x y ≡ val_eq y x
val_eq-flip (it x) (it y) = value_eq-flip x y
val_eq-flip (it x) (maybe p) = refl
val_eq-flip (maybe o) (it y) = refl
val_eq-flip (maybe o) (maybe p) = option_eq-flip o p

-- ---- equations of values

equal_same : (o : Option Bool) (x : Val) → seen x ≡ o → yes true ≡ equal_seen o o x x
equal_same (Some true) x e = sym (seen_is x true e)
equal_same (Some false) x e = rw (seen_is x false e) (sym (not_yes false))
equal_same None x e = ap yes (sym (val_eq-same x))

equal_flip : (o p : Option Bool) (x y : Val) → seen x ≡ o → seen y ≡ p → equal_seen p o y x ≡ equal_seen o p x y
equal_flip (Some true) (Some true) x y e f = seen_is x true e ∙ sym (seen_is y true f)
equal_flip (Some true) (Some false) x y e f = ap not_value (seen_is x true e) ∙ not_yes true ∙ sym (seen_is y false f)
equal_flip (Some false) (Some true) x y e f = seen_is x false e ∙ sym (ap not_value (seen_is y true f) ∙ not_yes true)
equal_flip (Some false) (Some false) x y e f = ap not_value (seen_is x false e ∙ sym (seen_is y false f))
equal_flip (Some true) None x y e f = refl
equal_flip (Some false) None x y e f = refl
equal_flip None (Some true) x y e f = refl
equal_flip None (Some false) x y e f = refl
equal_flip None None x y e f = ap yes (val_eq-flip y x)

-- ---- literals

constant_of : (a : Tree) (b : Bool) → literal_of a ≡ Some (literal.Bool b) → constant a ≡ Some b
constant_of (leaf (leafs.Literal l)) b h = let e : l ≡ literal.Bool b = cc in ap (λ (z : Literal). constant (leaf (leafs.Literal z))) e
constant_of (leaf (leafs.None s)) b h = cc
constant_of (leaf (leafs.Principal s)) b h = cc
constant_of (leaf (leafs.Resource s)) b h = cc
constant_of (leaf (leafs.Context s)) b h = cc
constant_of (one o a) b h = cc
constant_of (two o c d) b h = cc
constant_of (choice c d e) b h = cc
constant_of (many o ts) b h = cc

-- a literal that is no truth value is seen as none
unseen : (a : Tree) (l : Literal) → literal_of a ≡ Some l → constant a ≡ None → seen (it (literal_value l)) ≡ None
unseen a (literal.Bool b) h k = let e = constant_of a b h in cc
unseen a (literal.Long n) h k = ap bool_seen (out_Long n)
unseen a (literal.String x) h k = ap bool_seen (out_String x)
unseen a (literal.Decimal n) h k = ap bool_seen (out_Decimal n)
unseen a (literal.Ip x) h k = ap bool_seen (out_Ip x)
unseen a (literal.Entity u us) h k = ap bool_seen (out_Entity u)

-- ---- literals that have one value: but for the choices beside an entity they are one

abbrev bare : Literal → Literal
bare (literal.Bool b) = literal.Bool b
bare (literal.Long n) = literal.Long n
bare (literal.String x) = literal.String x
bare (literal.Decimal n) = literal.Decimal n
bare (literal.Ip x) = literal.Ip x
bare (literal.Entity u us) = literal.Entity u []

abbrev literal_in : Value-F Value → Literal
literal_in (v.Bool b) = literal.Bool b
literal_in (v.Long n) = literal.Long n
literal_in (v.String x) = literal.String x
literal_in (v.Decimal n) = literal.Decimal n
literal_in (v.Ip x) = literal.Ip x
literal_in (v.Entity u) = literal.Entity u []
literal_in (v.Set xs) = literal.Bool false
literal_in (v.Record fs) = literal.Bool false

bare_in : (l : Literal) → literal_in (out-Value (literal_value l)) ≡ bare l
bare_in (literal.Bool b) = ap literal_in (out_Bool b)
bare_in (literal.Long n) = ap literal_in (out_Long n)
bare_in (literal.String x) = ap literal_in (out_String x)
bare_in (literal.Decimal n) = ap literal_in (out_Decimal n)
bare_in (literal.Ip x) = ap literal_in (out_Ip x)
bare_in (literal.Entity u us) = ap literal_in (out_Entity u)

bare_same : (l m : Literal) → literal_value l ≡ literal_value m → bare l ≡ bare m
bare_same l m e = sym (bare_in l) ∙ ap (λ (x : Value). literal_in (out-Value x)) e ∙ bare_in m

abbrev uid_of : Literal → Uid → Uid
uid_of (literal.Entity u us) d = u
uid_of _ d = d

level_itself : (u v : Uid) → u ≡ v → is_eq (uid_cmp u v) ≡ true
level_itself u v e = subst (λ (z : Uid). is_eq (uid_cmp u z) ≡ true) e (ap is_eq (tied_itself uid_cmp_total u))

twice : (l m : Literal) → (l ≡ m → ⊥) → bare l ≡ bare m → same_entity l m ≡ true
twice (literal.Bool b) (literal.Bool c) ne e = absurd (ne e)
twice (literal.Bool b) _ ne e = absurd cc
twice (literal.Long n) (literal.Long k) ne e = absurd (ne e)
twice (literal.Long n) _ ne e = absurd cc
twice (literal.String x) (literal.String y) ne e = absurd (ne e)
twice (literal.String x) _ ne e = absurd cc
twice (literal.Decimal n) (literal.Decimal k) ne e = absurd (ne e)
twice (literal.Decimal n) _ ne e = absurd cc
twice (literal.Ip x) (literal.Ip y) ne e = absurd (ne e)
twice (literal.Ip x) _ ne e = absurd cc
twice (literal.Entity u us) (literal.Entity v vs) ne e = level_itself u v (ap (λ (z : Literal). uid_of z u) e)
twice (literal.Entity u us) _ ne e = absurd cc

one_uid : (l m : Literal) → same_entity l m ≡ true → literal_value l ≡ literal_value m
one_uid (literal.Entity u us) (literal.Entity v vs) h = ap value.Entity (uid_cmp_level u v ((Equal-is (uid_cmp u v)).0 h))
one_uid (literal.Entity u us) (literal.Bool b) h = cc
one_uid (literal.Entity u us) (literal.Long n) h = cc
one_uid (literal.Entity u us) (literal.String x) h = cc
one_uid (literal.Entity u us) (literal.Decimal n) h = cc
one_uid (literal.Entity u us) (literal.Ip x) h = cc
one_uid (literal.Bool b) m h = cc
one_uid (literal.Long n) m h = cc
one_uid (literal.String x) m h = cc
one_uid (literal.Decimal n) m h = cc
one_uid (literal.Ip x) m h = cc

literals_level : (l m : Literal) → (l ≡ m → ⊥) → same_entity l m ≡ value_eq (literal_value l) (literal_value m)
literals_level l m ne =
    both_ways (same_entity l m) (value_eq (literal_value l) (literal_value m))
    (λ h. value_eq-same _ _ (one_uid l m h))
    (λ h. twice l m ne (bare_same l m (value_eq-exact _ _ h)))

literal_tree : (a : Tree) (l : Literal) → literal_of a ≡ Some l → a ≡ leaf (leafs.Literal l)
literal_tree (leaf (leafs.Literal m)) l h = let e : m ≡ l = cc in ap (λ (z : Literal). leaf (leafs.Literal z)) e
literal_tree (leaf (leafs.None s)) l h = cc
literal_tree (leaf (leafs.Principal s)) l h = cc
literal_tree (leaf (leafs.Resource s)) l h = cc
literal_tree (leaf (leafs.Context s)) l h = cc
literal_tree (one o a) l h = cc
literal_tree (two o c d) l h = cc
literal_tree (choice c d e) l h = cc
literal_tree (many o ts) l h = cc

-- terms that aren't one are of literals that aren't one
literals_apart : (a b : Tree) (l m : Literal) → literal_of a ≡ Some l → literal_of b ≡ Some m → tree_eq a b ≡ false → l ≡ m → ⊥
literals_apart a b l m e f g h =
    let same : a ≡ b = literal_tree a l e ∙ ap (λ (z : Literal). leaf (leafs.Literal z)) h ∙ sym (literal_tree b m f) in
    let both : tree_eq a b ≡ true = subst (λ (z : Tree). tree_eq a z ≡ true) same (tree_eq-itself a) in
    let never : false ≡ true = sym g ∙ both in
    cc

-- ---- the term of an equation

module _ (a b : Tree) (w : World) where
  pub equal_is : val (equal_term a b) w ≡ equal_value (val a w) (val b w)
  unfolding equal_term val equal_value
  equal_is = by (constant a) (constant b) refl refl
    where
      right : (c : Bool) (o : Option Bool) → seen (val a w) ≡ o → equal_seen o (Some c) (val a w) (yes c) ≡ cond c (val a w) (not_value (val a w))
      right true (Some true) e = sym (seen_is (val a w) true e)
      right false (Some true) e = sym (ap not_value (seen_is (val a w) true e) ∙ not_yes true)
      right true (Some false) e = not_yes true ∙ sym (seen_is (val a w) false e)
      right false (Some false) e = ap not_value (sym (seen_is (val a w) false e))
      right true None e = refl
      right false None e = refl

      ordered : (g : Bool) → val (equation g a b) w ≡ equal_seen (seen (val a w)) (seen (val b w)) (val a w) (val b w)
      ordered true = equal_flip (seen (val a w)) (seen (val b w)) (val a w) (val b w) refl refl
      ordered false = refl

      literals : (l m : Literal) → literal_of a ≡ Some l → literal_of b ≡ Some m → constant a ≡ None → constant b ≡ None → tree_eq a b ≡ false
          → yes (same_entity l m) ≡ equal_seen (seen (val a w)) (seen (val b w)) (val a w) (val b w)
      literals l m i j c d e =
          rw (literal_is a l w i, literal_is b m w j, unseen a l i c, unseen b m j d) (ap yes (literals_level l m (literals_apart a b l m i j e)))

      unlike : (l m : Option Literal) → literal_of a ≡ l → literal_of b ≡ m → constant a ≡ None → constant b ≡ None → tree_eq a b ≡ false
          → val (other_equal false (literals_same l m) a b) w ≡ equal_seen (seen (val a w)) (seen (val b w)) (val a w) (val b w)
      unlike (Some l) (Some m) i j c d e = literals l m i j c d e
      unlike (Some l) None i j c d e = ordered (is_gt (tree_cmp a b))
      unlike None m i j c d e = ordered (is_gt (tree_cmp a b))

      other : (s : Bool) → constant a ≡ None → constant b ≡ None → tree_eq a b ≡ s
          → val (other_equal s (literals_same (literal_of a) (literal_of b)) a b) w ≡ equal_seen (seen (val a w)) (seen (val b w)) (val a w) (val b w)
      other true c d e = rw (← same_value a b w e) (equal_same (seen (val a w)) (val a w) refl)
      other false c d e = unlike (literal_of a) (literal_of b) refl refl c d e

      by : (c d : Option Bool) → constant a ≡ c → constant b ≡ d → val (equal_by c d a b) w ≡ equal_seen (seen (val a w)) (seen (val b w)) (val a w) (val b w)
      by (Some true) d e f = rw (constant_value a true w e, seen_yes true) refl
      by (Some false) d e f = rw (constant_value a false w e, seen_yes false) (not_is b w)
      by None (Some true) e f = rw (constant_value b true w f, seen_yes true) (sym (right true (seen (val a w)) refl))
      by None (Some false) e f = rw (constant_value b false w f, seen_yes false, not_is a w) (sym (right false (seen (val a w)) refl))
      by None None e f = other (tree_eq a b) e f refl

-- ---- equations of truth values, and of others

bools_differ : (b c : Bool) → value.Bool b ≡ value.Bool c → b ≡ c
bools_differ b c e = let f : ◌≡◌ {A = Value-F Value} (v.Bool b) (v.Bool c) = sym (out_Bool b) ∙ ap out-Value e ∙ out_Bool c in cc

unequal : (b : Bool) → value_eq (value.Bool b) (value.Bool (not b)) ≡ false
unequal b = by (value_eq (value.Bool b) (value.Bool (not b))) refl
  where
    apart : (b : Bool) → b ≡ not b → ⊥
    apart true e = cc
    apart false e = cc

    by : (c : Bool) → value_eq (value.Bool b) (value.Bool (not b)) ≡ c → c ≡ false
    by false h = refl
    by true h = absurd (apart b (bools_differ b (not b) (value_eq-exact (value.Bool b) (value.Bool (not b)) h)))

pub equal_bools : (b c : Bool) → equal_value (yes b) (yes c) ≡ yes (value_eq (value.Bool b) (value.Bool c))
unfolding equal_value
equal_bools true true = rw (seen_yes true) (ap yes (sym (value_eq-same (value.Bool true) (value.Bool true) refl)))
equal_bools true false = rw (seen_yes true) (ap yes (sym (unequal true)))
equal_bools false true = rw (seen_yes false) (not_yes true ∙ ap yes (sym (unequal false)))
equal_bools false false = rw (seen_yes false) (not_yes false ∙ ap yes (sym (value_eq-same (value.Bool false) (value.Bool false) refl)))

pub equal_others : (x y : Val) → seen x ≡ None → seen y ≡ None → equal_value x y ≡ yes (val_eq x y)
unfolding equal_value
equal_others x y e f = ap (λ (o : Option Bool). equal_seen o (seen y) x y) e ∙ ap (λ (o : Option Bool). equal_seen None o x y) f

pub val_eq-exact : (x y : Val) → val_eq x y ≡ true → x ≡ y
val_eq-exact (it x) (it y) h = ap it (value_eq-exact x y h)
val_eq-exact (it x) (maybe p) h = absurd cc
val_eq-exact (maybe o) (it y) h = absurd cc
val_eq-exact (maybe None) (maybe None) h = refl
val_eq-exact (maybe None) (maybe (Some y)) h = absurd cc
val_eq-exact (maybe (Some x)) (maybe None) h = absurd cc
val_eq-exact (maybe (Some x)) (maybe (Some y)) h = ap (λ (z : Value). maybe (Some z)) (value_eq-exact x y h)
