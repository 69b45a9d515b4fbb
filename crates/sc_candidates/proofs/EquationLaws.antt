-- Equations of literals of two values.
use Rattle.std.proofs.Common.{◌≡◌, ◌⊎◌, inl, inr, ⊎_elim, ℕ, ◌+◌, ◌<◌, ◌≤◌, Bool, true, false, not, ◌&&◌, ◌||◌, List, [], ◌∷◌, ◌++◌, flat_map, take, get_or, length, Option, Some, None, refl, sym, ap, ◌∙◌, subst, append-nil}
use Rattle.std.proofs.lemmas.Bool.{false≢true, or_right}
use Rattle.std.proofs.lemmas.Grind.{flat_map-append}
use Rattle.std.proofs.lemmas.List.{take_more, take_all}
use Rattle.std.specs.List.{AllByRecursion, list_any}
use Rattle.sc_lists.proofs.MemberLaws.{Has-left, Has-right, Has-append, Has-map, map-Has, AllByRecursion-Has, Has-AllByRecursion}
use Rattle.sc_lists.specs.Members.{Has}
use Rattle.sc_sorts.specs.declared.node.Node.{Node}
use Rattle.sc_sorts.specs.declared.node.Leaf.TheVariants.{Literal}
use Rattle.sc_sorts.specs.declared.node.Literal.{Literal as AnyLiteral}
use Rattle.sc_sorts.specs.declared.node.Literal.TheVariants as literal
use Rattle.sc_sorts.specs.Literals.{same_entity}
use Rattle.sc_terms.specs.Trees.{Tree, leaf}
use Rattle.sc_terms.specs.Tables.{tree, Keeps, StandsFor}
use Rattle.sc_terms.specs.Order.{tree_eq}
use Rattle.sc_terms.specs.Folds.{truth_term, constant, literal_of, literals_same, equal_term}
use Rattle.sc_terms.proofs.OrderLaws.{tree_eq-itself}
use Rattle.sc_closure_rules.specs.Making.{Puts, stood}
use Rattle.sc_closure_rules.proofs.MakingLaws.{puts_then, puts_same, stood_later}
use Rattle.sc_closure_rules.proofs.MemberLaws.{within_later}
use Rattle.sc_candidates.specs.Values.{truth_value, value_in, AreDivided}
use Rattle.sc_candidates.specs.Equations.{apart, apart_from, told_of, equations_with, Equates}

-- a literal that is no truth value has none
no_constant : (t : Tree) (l : AnyLiteral) → literal_of t ≡ Some l → truth_value l ≡ false → constant t ≡ None
no_constant (leaf (Literal (literal.Bool b))) l e h = let f : literal.Bool b ≡ l = cc in absurd (false≢true (sym h ∙ sym (ap truth_value f)))
no_constant (leaf (Literal _)) l e h = refl
no_constant _ l e h = absurd cc

falls : (a b : Tree) → constant a ≡ None → constant b ≡ None → tree_eq a b ≡ false → literals_same (literal_of a) (literal_of b) ≡ Some false → equal_term a b ≡ truth_term false
unfolding equal_term
falls a b e f g h = rw (e, f, g, h) refl

-- the equation of two literals of two values is `false`
apart_falls : (a b : Tree) (one : Bool) (o p : Option AnyLiteral) → tree_eq a b ≡ one → literal_of a ≡ o → literal_of b ≡ p → apart one o p ≡ true → equal_term a b ≡ truth_term false
apart_falls a b true o p e f g h = absurd (false≢true h)
apart_falls a b false None p e f g h = absurd (false≢true h)
apart_falls a b false (Some l) None e f g h = absurd (false≢true h)
apart_falls a b false (Some l) (Some m) e f g h = by (truth_value l) (truth_value m) (same_entity l m) refl refl refl h
  where
    by : (x y z : Bool) → truth_value l ≡ x → truth_value m ≡ y → same_entity l m ≡ z → (not x && (not y && not z)) ≡ true → equal_term a b ≡ truth_term false
    by true y z i j k n = absurd (false≢true n)
    by false true z i j k n = absurd (false≢true n)
    by false false true i j k n = absurd (false≢true n)
    by false false false i j k n = falls a b (no_constant a l f i) (no_constant b m g j) e (ap (λ u. literals_same u (literal_of b)) f ∙ ap (literals_same (Some l)) g ∙ ap Some k)

-- so the number of `false` stands for it
pub stands_apart : (xs : List Node) (n : ℕ) (a b : Tree) → apart (tree_eq a b) (literal_of a) (literal_of b) ≡ true → StandsFor xs n (truth_term false) → StandsFor xs n (equal_term a b)
stands_apart xs n a b h s = subst (StandsFor xs n) (sym (apart_falls a b (tree_eq a b) (literal_of a) (literal_of b) refl refl refl h)) s

always : (a b : Tree) → constant a ≡ None → constant b ≡ None → tree_eq a b ≡ true → equal_term a b ≡ truth_term true
unfolding equal_term
always a b e f g = rw (e, f, g) refl

holds : (a b : Tree) → constant a ≡ None → constant b ≡ None → tree_eq a b ≡ false → literals_same (literal_of a) (literal_of b) ≡ Some true → equal_term a b ≡ truth_term true
unfolding equal_term
holds a b e f g h = rw (e, f, g, h) refl

-- the equation of two values that aren't apart is `true`
together_holds : (a b : Tree) (one : Bool) (o p : Option AnyLiteral) → tree_eq a b ≡ one → literal_of a ≡ o → literal_of b ≡ p → value_in o ≡ true → value_in p ≡ true → apart one o p ≡ false → equal_term a b ≡ truth_term true
together_holds a b one None p e f g v w h = absurd (false≢true v)
together_holds a b one (Some l) None e f g v w h = absurd (false≢true w)
together_holds a b one (Some l) (Some m) e f g v w h = by one (truth_value l) (truth_value m) (same_entity l m) e refl refl refl v w h
  where
    by : (s x y z : Bool) → tree_eq a b ≡ s → truth_value l ≡ x → truth_value m ≡ y → same_entity l m ≡ z → not x ≡ true → not y ≡ true → apart s (Some l) (Some m) ≡ false → equal_term a b ≡ truth_term true
    by s true y z i j k n v w h = absurd (false≢true v)
    by s false true z i j k n v w h = absurd (false≢true w)
    by true false false z i j k n v w h = always a b (no_constant a l f j) (no_constant b m g k) i
    by false false false true i j k n v w h = holds a b (no_constant a l f j) (no_constant b m g k) i (ap (λ u. literals_same u (literal_of b)) f ∙ ap (literals_same (Some l)) g ∙ ap Some n)
    by false false false false i j k n v w h = absurd (false≢true (sym h ∙ ap (λ u. not u && (not (truth_value m) && not (same_entity l m))) j ∙ ap (λ u. not u && not (same_entity l m)) k ∙ ap not n))

-- so it is that of the second with itself
pub together : (a b : Tree) → value_in (literal_of a) ≡ true → value_in (literal_of b) ≡ true → apart (tree_eq a b) (literal_of a) (literal_of b) ≡ false → equal_term b b ≡ equal_term a b
together a b v w h =
    together_holds b b true (literal_of b) (literal_of b) (tree_eq-itself b) refl refl w w refl ∙ sym (together_holds a b (tree_eq a b) (literal_of a) (literal_of b) refl refl refl v w h)

-- numbers that stand for all of these equations
pub equates_all : (s0 s1 : List Node) (ls ms : List ℕ) (ys : List Tree) (x : Tree) → Puts s0 s1 ls ms ys → Equates s0 s1 ls ms ys x
equates_all s0 s1 ls ms ys x p = record { told = ys; puts = p; only = λ z h. inl h; whole = λ z h. h }

pub equates_same : (s0 s1 : List Node) (ls ms : List ℕ) (ys zs : List Tree) (x y : Tree) → ys ≡ zs → x ≡ y → Equates s0 s1 ls ms ys x → Equates s0 s1 ls ms zs y
equates_same s0 s1 ls ms ys zs x y e f p = subst (Equates s0 s1 ls ms zs) f (subst (λ (ts : List Tree). Equates s0 s1 ls ms ts x) e p)

pub equates_then : (s0 s1 s2 : List Node) (ls ms ns : List ℕ) (ys zs : List Tree) (x : Tree) → Equates s0 s1 ls ms ys x → Equates s1 s2 ms ns zs x → Equates s0 s2 ls ns (ys ++ zs) x
equates_then s0 s1 s2 ls ms ns ys zs x p q = record {
  told = p.told ++ q.told;
  puts = puts_then s0 s1 s2 ls ms ns p.told q.told p.puts q.puts;
  only = λ z h. ⊎_elim (λ i. ⊎_elim (λ j. inl (Has-left ys zs z j)) inr (p.only z i)) (λ i. ⊎_elim (λ j. inl (Has-right ys zs z j)) inr (q.only z i)) (Has-append p.told q.told z h);
  whole = λ z h. ⊎_elim (λ i. Has-left p.told q.told z (p.whole z i)) (λ i. Has-right p.told q.told z (q.whole z i)) (Has-append ys zs z h);
}

-- ---- the equations of a value and those of a group

told_own : (b : Bool) (x : Tree) → Has (told_of b x) (equal_term x x)
told_own true x = inl refl
told_own false x = inl refl

told_false : (b : Bool) (x : Tree) → b ≡ true → Has (told_of b x) (truth_term false)
told_false true x e = inr (inl refl)
told_false false x e = absurd (false≢true e)

told_only : (b : Bool) (x z : Tree) → Has (told_of b x) z → (equal_term x x ≡ z) ⊎ ((b ≡ true) × (truth_term false ≡ z))
told_only true x z (inl e) = inl e
told_only true x z (inr (inl e)) = inr (refl, e)
told_only true x z (inr (inr h)) = absurd h
told_only false x z (inl e) = inl e
told_only false x z (inr h) = absurd h

any_has : (p : ℕ → Bool) (ns : List ℕ) → list_any p ns ≡ true → (n : ℕ) × Has ns n × (p n ≡ true)
any_has p [] h = absurd (false≢true h)
any_has p (m ∷ ms) h = by (p m) refl (any_has p ms)
  where
    by : (b : Bool) → p m ≡ b → (list_any p ms ≡ true → (n : ℕ) × Has ms n × (p n ≡ true)) → (n : ℕ) × Has (m ∷ ms) n × (p n ≡ true)
    by true e later = (m, inl refl, e)
    by false e later = let q = later (sym (ap (λ u. u || list_any p ms) e) ∙ h) in (q.0, inr q.1, q.2)

has_any : (p : ℕ → Bool) (ns : List ℕ) (n : ℕ) → Has ns n → p n ≡ true → list_any p ns ≡ true
has_any p [] n h e = absurd h
has_any p (m ∷ ms) n (inl f) e = ap (λ u. u || list_any p ms) (ap p f ∙ e)
has_any p (m ∷ ms) n (inr h) e = or_right (p m) (list_any p ms) (has_any p ms n h e)

module _ (xs : List Node) (ms os : List ℕ) (x : Tree) (divided : AreDivided xs ms os) (value : value_in (literal_of x) ≡ true) where
  abbrev met : List ℕ → List Tree
  met ns = equations_with (stood xs ns) x

  abbrev any : Bool
  any = list_any (apart_from xs x) ms

  number_met : (ns : List ℕ) (n : ℕ) → Has ns n → Has (met ns) (equal_term (tree xs n) x)
  number_met ns n h = Has-map (λ (t : Tree). equal_term t x) (stood xs ns) (tree xs n) (Has-map (tree xs) ns n h)

  met_number : (ns : List ℕ) (z : Tree) → Has (met ns) z → (n : ℕ) × Has ns n × (equal_term (tree xs n) x ≡ z)
  met_number ns z h =
      let q = map-Has (λ (t : Tree). equal_term t x) (stood xs ns) z h in
      let n = map-Has (tree xs) ns q.0 q.1 in
      (n.0, n.1, ap (λ (t : Tree). equal_term t x) n.2 ∙ q.2)

  value_only : (z : Tree) → Has (told_of any x ++ met os) z → Has (met ms) z ⊎ (equal_term x x ≡ z)
  value_only z h = ⊎_elim (λ i. ⊎_elim inr (λ j. inl (two j.0 j.1)) (told_only any x z i)) (λ i. inl (other i)) (Has-append (told_of any x) (met os) z h)
    where
      two : any ≡ true → truth_term false ≡ z → Has (met ms) z
      two e f =
          let n = any_has (apart_from xs x) ms e in
          subst (Has (met ms)) (apart_falls (tree xs n.0) x (tree_eq (tree xs n.0) x) (literal_of (tree xs n.0)) (literal_of x) refl refl refl n.2 ∙ f) (number_met ms n.0 n.1)

      other : Has (met os) z → Has (met ms) z
      other i = let n = met_number os z i in subst (Has (met ms)) n.2 (number_met ms n.0 (divided.others_in n.0 n.1))

  value_whole : (z : Tree) → Has (met ms) z → Has (told_of any x ++ met os) z
  value_whole z h = let n = met_number ms z h in subst (Has (told_of any x ++ met os)) n.2 (⊎_elim (other n.0) (λ v. by n.0 n.1 v (apart_from xs x n.0) refl) (divided.divided n.0 n.1))
    where
      other : (n : ℕ) → Has os n → Has (told_of any x ++ met os) (equal_term (tree xs n) x)
      other n i = Has-right (told_of any x) (met os) (equal_term (tree xs n) x) (number_met os n i)

      by : (n : ℕ) → Has ms n → value_in (literal_of (tree xs n)) ≡ true → (b : Bool) → apart_from xs x n ≡ b → Has (told_of any x ++ met os) (equal_term (tree xs n) x)
      by n i v true e =
          Has-left (told_of any x) (met os) (equal_term (tree xs n) x)
          (subst (Has (told_of any x)) (sym (apart_falls (tree xs n) x (tree_eq (tree xs n) x) (literal_of (tree xs n)) (literal_of x) refl refl refl e)) (told_false any x (has_any (apart_from xs x) ms n i e)))
      by n i v false e =
          Has-left (told_of any x) (met os) (equal_term (tree xs n) x) (subst (Has (told_of any x)) (together (tree xs n) x v value e) (told_own any x))

  equates_value : (s1 s2 : List Node) (ls ks ns : List ℕ) → Puts xs s1 ls ks (told_of any x) → Puts s1 s2 ks ns (met os) → Equates xs s2 ls ns (met ms) x
  equates_value s1 s2 ls ks ns p q = record {
    told = told_of any x ++ met os;
    puts = puts_then xs s1 s2 ls ks ns (told_of any x) (met os) p q;
    only = value_only;
    whole = value_whole;
  }

others_within : (l : ℕ) (xs : List Node) (ms os : List ℕ) → AreDivided xs ms os → AllByRecursion (λ n. n < l) ms → AllByRecursion (λ n. n < l) os
others_within l xs ms os d w = Has-AllByRecursion (λ n. n < l) os (λ n h. AllByRecursion-Has (λ n. n < l) ms n w (d.others_in n h))

pub others_later : (xs ys : List Node) (ms os : List ℕ) → Keeps xs ys → AreDivided xs ms os → AllByRecursion (λ n. n < length xs) ms → AllByRecursion (λ n. n < length ys) os
others_later xs ys ms os e d w = within_later (length xs) (length ys) e.longer os (others_within (length xs) xs ms os d w)

pub value_equates : (xs s1 s2 : List Node) (ls ks ns ms os : List ℕ) (term : ℕ) → AllByRecursion (λ n. n < length xs) ms → AreDivided xs ms os → term < length xs → value_in (literal_of (tree xs term)) ≡ true
    → Puts xs s1 ls ks (told_of (list_any (apart_from xs (tree xs term)) ms) (tree xs term)) → Puts s1 s2 ks ns (equations_with (stood s1 os) (tree s1 term))
    → Equates xs s2 ls ns (equations_with (stood xs ms) (tree xs term)) (tree xs term)
value_equates xs s1 s2 ls ks ns ms os term w d within v p q =
    let same : equations_with (stood s1 os) (tree s1 term) ≡ equations_with (stood xs os) (tree xs term) =
    ap (λ (ts : List Tree). equations_with ts (tree s1 term)) (stood_later xs s1 p.kept os (others_within (length xs) xs ms os d w)) ∙ ap (equations_with (stood xs os)) (p.kept.same term within) in
    equates_value xs ms os (tree xs term) d v s1 s2 ls ks ns p (puts_same s1 s2 ks ns (equations_with (stood s1 os) (tree s1 term)) (equations_with (stood xs os) (tree xs term)) same q)

-- ---- equations for each of a list, one after the other

module _ {X : Type 0} (f : X → List Tree) (us : List X) (s0 s1 : List Node) (ls ms : List ℕ) (i : ℕ) (x : Tree) (so_far : Equates s0 s1 ls ms (flat_map f (take i us)) x) where
  pub equates_more : (s2 : List Node) (ns : List ℕ) (u : X) → i < length us → u ≡ get_or us i u → Equates s1 s2 ms ns (f u) x → Equates s0 s2 ls ns (flat_map f (take (i + 1) us)) x
  equates_more s2 ns u h at p =
      let last : take (i + 1) us ≡ take i us ++ u ∷ [] = take_more us i u h ∙ ap (λ (t : X). take i us ++ t ∷ []) (sym at) in
      let more : flat_map f (take i us) ++ f u ≡ flat_map f (take (i + 1) us) =
      sym (ap (flat_map f) last ∙ flat_map-append f (take i us) (u ∷ []) ∙ ap (λ (ts : List Tree). flat_map f (take i us) ++ ts) (append-nil (f u))) in
      equates_same s0 s2 ls ns (flat_map f (take i us) ++ f u) (flat_map f (take (i + 1) us)) x x more refl (equates_then s0 s1 s2 ls ms ns (flat_map f (take i us)) (f u) x so_far p)

  pub equates_whole : length us ≤ i → Equates s0 s1 ls ms (flat_map f us) x
  equates_whole h = equates_same s0 s1 ls ms (flat_map f (take i us)) (flat_map f us) x x (ap (flat_map f) (take_all i us h)) refl so_far
