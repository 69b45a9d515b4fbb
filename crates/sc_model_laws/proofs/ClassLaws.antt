-- Two terms have the name of one class exactly where they are in one class, and a literal's class has its name.
use Rattle.std.proofs.Common.{◌≡◌, ◌+◌, ◌≤◌, inl, inr, ℕ, zero, suc, Bool, true, false, cond, List, [], ◌∷◌, length, Option, Some, None, refl, ap, sym, ◌∙◌, subst, arith}
use Rattle.std.specs.Cmp.{both_ways}
use Rattle.sc_lists.specs.Members.{Has}
use Rattle.sc_laws.proofs.BoolLaws.{true_both}
use Rattle.sc_terms.specs.Trees.{Tree}
use Rattle.sc_model_laws.specs.Names.{Name, or_name, literal_among, place_among, or_fresh, zeros, length_of, longest, class_name}

pub length_zeros : (n : ℕ) → length (zeros n) ≡ n
unfolding zeros
length_zeros zero = refl
length_zeros (suc n) = ap suc (length_zeros n)

pub record IsClassed (same : Tree → Tree → Bool) (literal : Tree → Option Name) (xs : List Tree) : Type 0 where
  pub itself : (x : Tree) → Has xs x → same x x ≡ true
  pub turned : (x y : Tree) → Has xs x → Has xs y → same x y ≡ true → same y x ≡ true
  pub through : (x y z : Tree) → Has xs x → Has xs y → Has xs z → same x y ≡ true → same y z ≡ true → same x z ≡ true
  pub one_literal : (x y : Tree) (n : Name) → Has xs x → Has xs y → literal x ≡ Some n → literal y ≡ Some n → x ≡ y
  pub one_name : (x y : Tree) (n o : Name) → Has xs x → Has xs y → literal x ≡ Some n → literal y ≡ Some o → same x y ≡ true → n ≡ o

module _ (same : Tree → Tree → Bool) (literal : Tree → Option Name) where
  longest_least : (xs : List Tree) (x : Tree) (n : Name) → Has xs x → literal x ≡ Some n → length n ≤ longest literal xs
  unfolding longest
  longest_least [] x n h e = absurd h
  longest_least (y ∷ xs) x n (inl is) e =
      let f : length_of (literal y) ≡ length n = ap length_of (ap literal is ∙ e) in
      omega (arith, f)
  longest_least (y ∷ xs) x n (inr later) e =
      let f : length n ≤ longest literal xs = longest_least xs x n later e in
      omega (arith, f)

  -- the class that holds both
  one_literal_among : (ys : List Tree) (x z : Tree) → ((y : Tree) → Has ys y → same x y ≡ same z y) → literal_among same literal ys x ≡ literal_among same literal ys z
  unfolding literal_among
  one_literal_among [] x z h = refl
  one_literal_among (y ∷ ys) x z h =
      let one : same x y ≡ same z y = h y (inl refl) in
      let more : literal_among same literal ys x ≡ literal_among same literal ys z = one_literal_among ys x z (λ u n. h u (inr n)) in
      λ i. or_name (cond (one i) (literal y) None) (more i)

  one_place_among : (ys : List Tree) (x z : Tree) → ((y : Tree) → Has ys y → same x y ≡ same z y) → place_among same literal ys x ≡ place_among same literal ys z
  unfolding place_among
  one_place_among [] x z h = refl
  one_place_among (y ∷ ys) x z h =
      let one : same x y ≡ same z y = h y (inl refl) in
      let more : place_among same literal ys x ≡ place_among same literal ys z = one_place_among ys x z (λ u n. h u (inr n)) in
      λ i. cond (one i) zero (suc (more i))

  abbrev Found : List Tree → Tree → Name → Type 0
  Found ys x n = (y : Tree) × Has ys y × (same x y ≡ true) × (literal y ≡ Some n)

  found_later : (y : Tree) (ys : List Tree) (x : Tree) (n : Name) → Found ys x n → Found (y ∷ ys) x n
  found_later y ys x n r = (r.0, inr r.1, r.2, r.3)

  found_by : (y : Tree) (ys : List Tree) (x : Tree) (n : Name) → (literal_among same literal ys x ≡ Some n → Found ys x n) → (b : Bool) (o : Option Name)
      → same x y ≡ b → literal y ≡ o → or_name (cond b o None) (literal_among same literal ys x) ≡ Some n → Found (y ∷ ys) x n
  found_by y ys x n more true (Some m) f h e = (y, inl refl, f, h ∙ e)
  found_by y ys x n more true None f h e = found_later y ys x n (more e)
  found_by y ys x n more false o f h e = found_later y ys x n (more e)

  -- where its literal stands
  literal_is : (ys : List Tree) (x : Tree) (n : Name) → literal_among same literal ys x ≡ Some n → Found ys x n
  unfolding literal_among
  literal_is [] x n e = absurd cc
  literal_is (y ∷ ys) x n e = found_by y ys x n (literal_is ys x n) (same x y) (literal y) refl refl e

  or_some : (q o : Option Name) (n : Name) → o ≡ Some n → (p : Name) × (or_name q o ≡ Some p)
  or_some None o n e = (n, e)
  or_some (Some m) o n e = (m, refl)

  some_literal : (ys : List Tree) (x y : Tree) (n : Name) → Has ys y → same x y ≡ true → literal y ≡ Some n → (o : Name) × (literal_among same literal ys x ≡ Some o)
  unfolding literal_among
  some_literal [] x y n h e f = absurd h
  some_literal (z ∷ ys) x y n (inl is) e f =
      let here : cond (same x z) (literal z) None ≡ Some n = ap (λ (b : Bool). cond b (literal z) None) (ap (same x) is ∙ e) ∙ ap literal is ∙ f in
      (n, ap (λ (o : Option Name). or_name o (literal_among same literal ys x)) here)
  some_literal (z ∷ ys) x y n (inr later) e f =
      let next = some_literal ys x y n later e f in
      or_some (cond (same x z) (literal z) None) (literal_among same literal ys x) next.0 next.1

  abbrev Met : List Tree → Tree → Tree → Type 0
  Met ys x z = (t : Tree) × Has ys t × (same x t ≡ true) × (same z t ≡ true)

  beyond : (u : Tree) (ys : List Tree) (x y : Tree) → Has (u ∷ ys) y → same x y ≡ true → same x u ≡ false → Has ys y
  beyond u ys x y (inl is) e f = absurd (true_both (same x u) (ap (same x) is ∙ e) f)
  beyond u ys x y (inr later) e f = later

  met_by : (u : Tree) (ys : List Tree) (x z y : Tree) → Has (u ∷ ys) y → same x y ≡ true
      → (Has ys y → place_among same literal ys x ≡ place_among same literal ys z → Met ys x z) → (b c : Bool) → same x u ≡ b → same z u ≡ c
      → cond b zero (suc (place_among same literal ys x)) ≡ cond c zero (suc (place_among same literal ys z)) → Met (u ∷ ys) x z
  met_by u ys x z y h e more true true p q f = (u, inl refl, p, q)
  met_by u ys x z y h e more true false p q f = absurd (omega (arith, f))
  met_by u ys x z y h e more false true p q f = absurd (omega (arith, f))
  met_by u ys x z y h e more false false p q f =
      let same_place : place_among same literal ys x ≡ place_among same literal ys z = omega (arith, f) in
      let r = more (beyond u ys x y h e p) same_place in
      (r.0, inr r.1, r.2, r.3)

  -- two of one place are in the class of one term
  met : (ys : List Tree) (x z y : Tree) → Has ys y → same x y ≡ true → place_among same literal ys x ≡ place_among same literal ys z → Met ys x z
  unfolding place_among
  met [] x z y h e f = absurd h
  met (u ∷ ys) x z y h e f = met_by u ys x z y h e (λ n d. met ys x z y n e d) (same x u) (same z u) refl refl f

  module _ (xs : List Tree) (is : IsClassed same literal xs) where
    same_to : (x z y : Tree) → Has xs x → Has xs z → Has xs y → same x z ≡ true → same x y ≡ same z y
    same_to x z y a b c e =
        both_ways (same x y) (same z y) (λ f. is.through z x y b a c (is.turned x z a b e) f) (λ f. is.through x z y a b c e f)

    pub one_class : (x z : Tree) → Has xs x → Has xs z → same x z ≡ true → class_name same literal xs x ≡ class_name same literal xs z
    one_class x z a b e =
        let one : literal_among same literal xs x ≡ literal_among same literal xs z = one_literal_among xs x z (λ y c. same_to x z y a b c e) in
        let place : place_among same literal xs x ≡ place_among same literal xs z = one_place_among xs x z (λ y c. same_to x z y a b c e) in
        λ i. or_fresh (one i) (zeros (longest literal xs + suc (place i)))

    too_long : (x : Tree) (n : Name) (i : ℕ) → Has xs x → literal x ≡ Some n → n ≡ zeros (longest literal xs + suc i) → ⊥
    too_long x n i h e f =
        let less : length n ≤ longest literal xs = longest_least xs x n h e in
        let long : length n ≡ longest literal xs + suc i = ap length f ∙ length_zeros (longest literal xs + suc i) in
        omega (arith, less, long)

    by_name : (x z : Tree) (p q : Option Name) → literal_among same literal xs x ≡ p → literal_among same literal xs z ≡ q → Has xs x → Has xs z
        → or_fresh p (zeros (longest literal xs + suc (place_among same literal xs x))) ≡ or_fresh q (zeros (longest literal xs + suc (place_among same literal xs z)))
        → same x z ≡ true
    by_name x z (Some n) (Some o) e f a b d =
        let u = literal_is xs x n e in
        let v = literal_is xs z o f in
        let one : u.0 ≡ v.0 = is.one_literal u.0 v.0 o u.1 v.1 (u.3 ∙ ap Some d) v.3 in
        is.through x v.0 z a v.1 b (subst (λ t. same x t ≡ true) one u.2) (is.turned z v.0 b v.1 v.2)
    by_name x z (Some n) None e f a b d = let u = literal_is xs x n e in absurd (too_long u.0 n (place_among same literal xs z) u.1 u.3 d)
    by_name x z None (Some o) e f a b d = let v = literal_is xs z o f in absurd (too_long v.0 o (place_among same literal xs x) v.1 v.3 (sym d))
    by_name x z None None e f a b d =
        let lengths : longest literal xs + suc (place_among same literal xs x) ≡ longest literal xs + suc (place_among same literal xs z) =
        sym (length_zeros (longest literal xs + suc (place_among same literal xs x))) ∙ ap length d ∙ length_zeros (longest literal xs + suc (place_among same literal xs z)) in
        let places : place_among same literal xs x ≡ place_among same literal xs z = omega (arith, lengths) in
        let u = met xs x z x a (is.itself x a) places in
        is.through x u.0 z a u.1 b u.2 (is.turned z u.0 b u.1 u.3)

    pub of_one_name : (x z : Tree) → Has xs x → Has xs z → class_name same literal xs x ≡ class_name same literal xs z → same x z ≡ true
    of_one_name x z a b d = by_name x z (literal_among same literal xs x) (literal_among same literal xs z) refl refl a b d

    pub literal_name : (x : Tree) (n : Name) → Has xs x → literal x ≡ Some n → class_name same literal xs x ≡ n
    literal_name x n h e =
        let o = some_literal xs x x n h (is.itself x h) e in
        let u = literal_is xs x o.0 o.1 in
        ap (λ q. or_fresh q (zeros (longest literal xs + suc (place_among same literal xs x)))) o.1 ∙ sym (is.one_name x u.0 n o.0 h u.1 e u.3 u.2)
