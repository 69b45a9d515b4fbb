-- Sets that gain members.
use Rattle.std.proofs.Common.{◌≡◌, ◌↔◌, ◌⊎◌, ◌||◌, inl, inr, ⊎_elim, Bool, true, List, [], ◌∷◌, ◌++◌, length, arith, refl, sym, ap, ◌∙◌, subst}
use Rattle.std.proofs.lemmas.Bool.{or_cases, or_left, or_right}
use Rattle.std.specs.List.{list_any}
use Rattle.std.specs.BTreeMap.{is_at}
use Rattle.std.specs.declared.cmp.Ordering.{Ordering}
use Rattle.std.specs.declared.cmp.Ordering.TheVariants.{Equal}
use Rattle.std.specs.Ordering.{is_eq}
use Rattle.sc_lists.specs.Members.{Has}
use Rattle.sc_lists.specs.Ordered.{is_in}
use Rattle.sc_lists.proofs.MemberLaws.{Has-append, Has-left, Has-right}
use Rattle.sc_lists.proofs.OrderingLaws.{is_eq_true}
use Rattle.sc_smtlib_lines.specs.Gaining.{Gains, Leads}

module _ {X : Type 0} where
  pub gains_none : (xs : List X) → Gains xs xs []
  gains_none xs = record { are = λ x. (inl, λ h. ⊎_elim (λ k. k) (λ k. absurd k) h) }

  pub gains_by : (old new more as_more : List X) → more ≡ as_more → Gains old new as_more → Gains old new more
  gains_by old new more as_more e h = subst (Gains old new) (sym e) h

  pub gains_then : (a b c xs ys : List X) → Gains a b xs → Gains b c ys → Gains a c (xs ++ ys)
  gains_then a b c xs ys g h = record { are = λ x. (to x, from x) }
    where
      to : (x : X) → Has c x → Has a x ⊎ Has (xs ++ ys) x
      to x k = ⊎_elim (λ m. ⊎_elim inl (λ n. inr (Has-left xs ys x n)) ((g.are x).0 m)) (λ m. inr (Has-right xs ys x m)) ((h.are x).0 k)

      from : (x : X) → Has a x ⊎ Has (xs ++ ys) x → Has c x
      from x (inl m) = (h.are x).1 (inl ((g.are x).1 (inl m)))
      from x (inr m) = ⊎_elim (λ n. (h.are x).1 (inl ((g.are x).1 (inr n)))) (λ n. (h.are x).1 (inr n)) (Has-append xs ys x m)

  -- ---- loops

  pub leads_begin : (first all : List X) → Leads first first all all
  leads_begin first all = record { are = λ x. (λ h. h, λ h. h) }

  pub leads_on : (first now new whole part rest all : List X) → whole ≡ part ++ rest → Leads first now whole all → Gains now new part → Leads first new rest all
  leads_on first now new whole part rest all e h g = record { are = λ x. (to x, from x) }
    where
      to : (x : X) → Has new x ⊎ Has rest x → Has first x ⊎ Has all x
      to x (inl m) = (h.are x).0 (⊎_elim inl (λ n. inr (subst (λ z. Has z x) (sym e) (Has-left part rest x n))) ((g.are x).0 m))
      to x (inr m) = (h.are x).0 (inr (subst (λ z. Has z x) (sym e) (Has-right part rest x m)))

      back : (x : X) → Has now x ⊎ Has whole x → Has new x ⊎ Has rest x
      back x (inl m) = inl ((g.are x).1 (inl m))
      back x (inr m) = ⊎_elim (λ n. inl ((g.are x).1 (inr n))) inr (Has-append part rest x (subst (λ z. Has z x) e m))

      from : (x : X) → Has first x ⊎ Has all x → Has new x ⊎ Has rest x
      from x m = back x ((h.are x).1 m)

  pub leads_end : (first now rest all : List X) → rest ≡ [] → Leads first now rest all → Gains first now all
  leads_end first now rest all e h = record { are = λ x. (λ m. (h.are x).0 (inl m), λ m. ⊎_elim (λ n. n) (λ n. absurd (subst (λ z. Has z x) e n)) ((h.are x).1 m)) }

-- over a list that is walked through
pub leads_step : {A X : Type 0} (F : List A → List X) (f : A → List X) (opens : (x : A) (xs : List A) → F (x ∷ xs) ≡ f x ++ F xs)
    (first now new all : List X) (rest later : List A) (x : A) → rest ≡ x ∷ later → Leads first now (F rest) all → Gains now new (f x) → Leads first new (F later) all
leads_step F f opens first now new all rest later x e h g = leads_on first now new (F rest) (f x) (F later) all (ap F e ∙ opens x later) h g

pub leads_over : {A X : Type 0} (F : List A → List X) (first now all : List X) (rest : List A) → F [] ≡ [] → length rest ≡ 0 → Leads first now (F rest) all → Gains first now all
leads_over F first now all [] none e h = leads_end first now (F []) all none h
leads_over F first now all (x ∷ rest) none e h = absurd (omega (arith, e))

-- ---- a value that is put into an ascending list

module _ {K : Type 0} (R : K → K → Ordering) (exact : (a b : K) → R a b ≡ Equal → a ≡ b) (own : (a : K) → R a a ≡ Equal) where
  in_has : (xs : List K) (y : K) → is_in R y xs ≡ true → Has xs y
  in_has [] y h = absurd cc
  in_has (x ∷ xs) y h =
      ⊎_elim (λ e. inl (sym (exact y x (is_eq_true (R y x) e)))) (λ e. inr (in_has xs y e)) (or_cases (is_at (R y) x) (list_any (is_at (R y)) xs) h)

  has_in : (xs : List K) (y : K) → Has xs y → is_in R y xs ≡ true
  has_in [] y h = absurd h
  has_in (x ∷ xs) y (inl e) = or_left (is_at (R y) x) (list_any (is_at (R y)) xs) (subst (λ z. is_at (R y) z ≡ true) (sym e) (ap is_eq (own y)))
  has_in (x ∷ xs) y (inr h) = or_right (is_at (R y) x) (list_any (is_at (R y)) xs) (has_in xs y h)

  pub gains_put : (old new : List K) (x : K) → ((y : K) → is_in R y new ≡ (is_in R y old || is_at (R y) x)) → Gains old new (x ∷ [])
  gains_put old new x one_more = record { are = λ y. (to y, from y) }
    where
      to : (y : K) → Has new y → Has old y ⊎ Has (x ∷ []) y
      to y h = ⊎_elim (λ e. inl (in_has old y e)) (λ e. inr (inl (sym (exact y x (is_eq_true (R y x) e))))) (or_cases (is_in R y old) (is_at (R y) x) (sym (one_more y) ∙ has_in new y h))

      from : (y : K) → Has old y ⊎ Has (x ∷ []) y → Has new y
      from y (inl h) = in_has new y (one_more y ∙ or_left (is_in R y old) (is_at (R y) x) (has_in old y h))
      from y (inr (inl e)) = in_has new y (one_more y ∙ or_right (is_in R y old) (is_at (R y) x) (subst (λ z. is_at (R y) z ≡ true) (sym e) (ap is_eq (own y))))
      from y (inr (inr h)) = absurd h
