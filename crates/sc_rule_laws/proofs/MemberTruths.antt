-- What the tests of sets, options and patterns say in a world.
use Rattle.std.proofs.Common.{◌≡◌, ◌||◌, ◌⊎◌, ℕ, Bool, true, false, not, inl, inr, List, [], ◌∷◌, map, is_some, refl, sym, ap, ◌∙◌, subst}
use Rattle.std.specs.List.{list_all, list_any}
use Rattle.std.specs.declared.cmp.Ordering.{Ordering}
use Rattle.std.specs.declared.cmp.Ordering.TheVariants.{Less, Equal, Greater}
use Rattle.std.proofs.lemmas.Bool.{or_left, or_right}
use Rattle.sc_lists.specs.Members.{Has}
use Rattle.sc_pattern.specs.declared.part.Part.{Part}
use Rattle.sc_values.specs.declared.value.Value.{Value}
use Rattle.sc_values.specs.Order.{value_cmp}
use Rattle.sc_values.proofs.OrderLaws.{value_cmp_exact}
use Rattle.sc_values.proofs.OutLaws.{out_Set}
use Rattle.sc_world.specs.declared.world.World.{World}
use Rattle.sc_sorts.specs.declared.sort.Sort.{Sort}
use Rattle.sc_sorts.specs.Inside.{held_sort, member_sort}
use Rattle.sc_sorts.specs.declared.node.UnaryOp.TheVariants as unary
use Rattle.sc_sorts.specs.declared.node.BinaryOp.TheVariants as binary
use Rattle.sc_sorts.specs.declared.node.ManyOp.TheVariants as manys
use Rattle.sc_terms.specs.Trees.{Tree, many, Trees, no_part, part}
use Rattle.sc_terms.specs.TreeSorts.{tree_sort}
use Rattle.sc_terms.specs.Folds.{present_term, held_term, like_term}
use Rattle.sc_terms.specs.Values.{Val, it, val, vals, truth, value_eq, value_in, members_in, members_seen, option_in, level, like_seen, held_value, has_member, put_by, put_value, set_from, least}
use Rattle.sc_terms.proofs.FoldValues.{truth_yes, one_is, two_is, many_is, present_is, like_is}
use Rattle.sc_terms.proofs.EqualValues.{value_eq-exact, value_eq-same}
use Rattle.sc_terms.proofs.DefaultValues.{held_is}
use Rattle.sc_rule_laws.specs.Signed.{is_true}
use Rattle.sc_rule_laws.specs.Terms.{member, subset, common, missing, shared, members}
use Rattle.sc_rule_laws.proofs.MemberLaws.{all_has, has_all, has_any, any_first, fails_first}

-- ---- members of lists

has_by : (b : Bool) (m x : Value) (ms : List Value) → value_eq x m ≡ b → (has_member ms x ≡ true → Has ms x) → (b || has_member ms x) ≡ true → Has (m ∷ ms) x
has_by true m x ms f later e = inl (sym (value_eq-exact x m f))
has_by false m x ms f later e = inr (later e)

pub has_in : (ms : List Value) (x : Value) → has_member ms x ≡ true → Has ms x
has_in [] x e = absurd cc
has_in (m ∷ ms) x e = has_by (value_eq x m) m x ms refl (has_in ms x) e

pub in_has : (ms : List Value) (x : Value) → Has ms x → has_member ms x ≡ true
in_has [] x h = absurd h
in_has (m ∷ ms) x h = elim h [
  | inl is ↦ or_left (value_eq x m) (has_member ms x) (value_eq-same x m (sym is))
  | inr later ↦ or_right (value_eq x m) (has_member ms x) (in_has ms x later)
]

-- ---- members of the set of a list

put_in : (o : Ordering) (x y z : Value) (ys later : List Value) → value_cmp x y ≡ o → Has (put_by o x y ys later) z → (Has later z → (x ≡ z) ⊎ Has ys z) → (x ≡ z) ⊎ Has (y ∷ ys) z
put_in Less x y z ys later e h next = h
put_in Equal x y z ys later e h next = inr h
put_in Greater x y z ys later e h next = elim h [
  | inl is ↦ inr (inl is)
  | inr more ↦ elim (next more) [
    | inl is ↦ inl is
    | inr old ↦ inr (inr old)
  ]
]

put_has : (x z : Value) (ys : List Value) → Has (put_value x ys) z → (x ≡ z) ⊎ Has ys z
unfolding put_value
put_has x z [] h = h
put_has x z (y ∷ ys) h = put_in (value_cmp x y) x y z ys (put_value x ys) refl h (put_has x z ys)

pub set_from_has : (xs : List Value) (z : Value) → Has (set_from xs) z → Has xs z
unfolding set_from
set_from_has [] z h = absurd h
set_from_has (x ∷ xs) z h = elim (put_has x z (set_from xs) h) [
  | inl is ↦ inl is
  | inr more ↦ inr (set_from_has xs z more)
]

in_put : (o : Ordering) (x y z : Value) (ys later : List Value) → value_cmp x y ≡ o → (x ≡ z) ⊎ Has (y ∷ ys) z → ((x ≡ z) ⊎ Has ys z → Has later z) → Has (put_by o x y ys later) z
in_put Less x y z ys later e h next = h
in_put Equal x y z ys later e h next = elim h [
  | inl is ↦ inl (sym (value_cmp_exact x y e) ∙ is)
  | inr more ↦ more
]
in_put Greater x y z ys later e h next = elim h [
  | inl is ↦ inr (next (inl is))
  | inr more ↦ elim more [
    | inl is ↦ inl is
    | inr old ↦ inr (next (inr old))
  ]
]

has_put : (x z : Value) (ys : List Value) → (x ≡ z) ⊎ Has ys z → Has (put_value x ys) z
unfolding put_value
has_put x z [] h = h
has_put x z (y ∷ ys) h = in_put (value_cmp x y) x y z ys (put_value x ys) refl h (has_put x z ys)

pub has_set_from : (xs : List Value) (z : Value) → Has xs z → Has (set_from xs) z
unfolding set_from
has_set_from [] z h = absurd h
has_set_from (x ∷ xs) z h = has_put x z (set_from xs) (elim h [
  | inl is ↦ inl is
  | inr more ↦ inr (has_set_from xs z more)
])

-- ---- members of a set term

abbrev values_in : Trees → World → List Value
values_in ts w = map (λ (x : List ℕ × Val). value_in x.1) (vals ts w)

term_members : (k : Sort) (ts : Trees) (w : World) → members_in (val (many (manys.Set k) ts) w) ≡ set_from (values_in ts w)
term_members k ts w = ap members_in (many_is (manys.Set k) ts w) ∙ ap members_seen (out_Set (set_from (values_in ts w)))

-- one of the terms has a value
pub record IsValueOf (ts : Trees) (w : World) (v : Value) : Type 0 where
  pub term : Tree
  pub there : Has (members ts) term
  pub value_is : value_in (val term w) ≡ v

values_has : (ts : Trees) (w : World) (v : Value) → Has (values_in ts w) v → IsValueOf ts w v
unfolding val
values_has no_part w v h = absurd h
values_has (part l t ts) w v h = elim h [
  | inl is ↦ record { term = t; there = inl refl; value_is = is }
  | inr later ↦ (let next = values_has ts w v later in record { term = next.term; there = inr next.there; value_is = next.value_is })
]

has_values : (ts : Trees) (w : World) (t : Tree) → Has (members ts) t → Has (values_in ts w) (value_in (val t w))
unfolding val
has_values no_part w t h = absurd h
has_values (part l u ts) w t h = elim h [
  | inl is ↦ inl (ap (λ (z : Tree). value_in (val z w)) is)
  | inr later ↦ inr (has_values ts w t later)
]

pub term_has : (k : Sort) (ts : Trees) (w : World) (v : Value) → Has (members_in (val (many (manys.Set k) ts) w)) v → IsValueOf ts w v
term_has k ts w v h = values_has ts w v (set_from_has (values_in ts w) v (subst (λ (ms : List Value). Has ms v) (term_members k ts w) h))

pub has_term : (k : Sort) (ts : Trees) (w : World) (t : Tree) → Has (members ts) t → Has (members_in (val (many (manys.Set k) ts) w)) (value_in (val t w))
has_term k ts w t h = subst (λ (ms : List Value). Has ms (value_in (val t w))) (sym (term_members k ts w)) (has_set_from (values_in ts w) (value_in (val t w)) (has_values ts w t h))

-- ---- tests

module _ (w : World) where
  abbrev pub Members : Tree → List Value
  Members s = members_in (val s w)

  pub member_is : (x s : Tree) → is_true (member x s) w ≡ has_member (members_in (val s w)) (value_in (val x w))
  member_is x s = ap truth (two_is binary.Member x s w) ∙ truth_yes _

  pub subset_is : (s t : Tree) → is_true (subset s t) w ≡ list_all (has_member (members_in (val t w))) (members_in (val s w))
  subset_is s t = ap truth (two_is binary.Subset s t w) ∙ truth_yes _

  pub common_is : (s t : Tree) → is_true (common s t) w ≡ list_any (has_member (members_in (val t w))) (members_in (val s w))
  common_is s t = ap truth (two_is binary.Common s t w) ∙ truth_yes _

  pub is_member : (x s : Tree) → is_true (member x s) w ≡ true → Has (members_in (val s w)) (value_in (val x w))
  is_member x s e = has_in (members_in (val s w)) (value_in (val x w)) (sym (member_is x s) ∙ e)

  pub member_so : (x s : Tree) → Has (members_in (val s w)) (value_in (val x w)) → is_true (member x s) w ≡ true
  member_so x s h = member_is x s ∙ in_has (members_in (val s w)) (value_in (val x w)) h

  -- from one set, and one member, to another
  pub member_moves : (x y s t : Tree) → value_in (val x w) ≡ value_in (val y w) → ((v : Value) → Has (members_in (val s w)) v → Has (members_in (val t w)) v)
      → is_true (member x s) w ≡ true → is_true (member y t) w ≡ true
  member_moves x y s t e h f = member_so y t (h (value_in (val y w)) (subst (Has (members_in (val s w))) e (is_member x s f)))

  pub is_subset : (s t : Tree) → is_true (subset s t) w ≡ true → (v : Value) → Has (members_in (val s w)) v → Has (members_in (val t w)) v
  is_subset s t e v h = has_in (members_in (val t w)) v (all_has (has_member (members_in (val t w))) (members_in (val s w)) v (sym (subset_is s t) ∙ e) h)

  pub subset_so : (s t : Tree) → ((v : Value) → Has (members_in (val s w)) v → Has (members_in (val t w)) v) → is_true (subset s t) w ≡ true
  subset_so s t h = subset_is s t ∙ has_all (has_member (members_in (val t w))) (members_in (val s w)) (λ v k. in_has (members_in (val t w)) v (h v k))

  pub common_so : (s t : Tree) (v : Value) → Has (members_in (val s w)) v → Has (members_in (val t w)) v → is_true (common s t) w ≡ true
  common_so s t v h k = common_is s t ∙ has_any (has_member (members_in (val t w))) (members_in (val s w)) v h (in_has (members_in (val t w)) v k)

  -- picks
  pub missing_is : (s t : Tree) → is_true (subset s t) w ≡ false → (v : Value) × (val (missing s t) w ≡ it v) × Has (members_in (val s w)) v × (has_member (members_in (val t w)) v ≡ false)
  missing_is s t e =
      let first = fails_first (has_member (members_in (val t w))) (members_in (val s w)) (sym (subset_is s t) ∙ e) in
      (first.found, two_is binary.DifferencePick s t w ∙ ap (least (member_sort (tree_sort s))) first.is, first.there, false_of (has_member (members_in (val t w)) first.found) first.passes)
    where
      false_of : (b : Bool) → not b ≡ true → b ≡ false
      false_of true e = absurd cc
      false_of false e = refl

  pub shared_is : (s t : Tree) → is_true (common s t) w ≡ true → (v : Value) × (val (shared s t) w ≡ it v) × Has (members_in (val s w)) v × Has (members_in (val t w)) v
  shared_is s t e =
      let first = any_first (has_member (members_in (val t w))) (members_in (val s w)) (sym (common_is s t) ∙ e) in
      (first.found, two_is binary.CommonPick s t w ∙ ap (least (member_sort (tree_sort s))) first.is, first.there, has_in (members_in (val t w)) first.found first.passes)

  -- options
  pub present_truth : (o : Tree) → is_true (present_term o) w ≡ is_some (option_in (val o w))
  present_truth o = ap truth (present_is o w ∙ one_is unary.Present o w) ∙ truth_yes _

  pub held_val : (o : Tree) → val (held_term o) w ≡ held_value (held_sort (tree_sort o)) (option_in (val o w))
  held_val o = held_is o w ∙ one_is unary.Held o w

  -- patterns
  pub like_truth : (t : Tree) (q : List Part) → is_true (like_term t q) w ≡ like_seen (level (val t w)) q
  like_truth t q = ap truth (like_is t q w ∙ one_is (unary.Like q) t w) ∙ truth_yes _
