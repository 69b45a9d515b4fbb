-- Terms of operands that agree with what these come to: what the construct is compiled to agrees with what it comes to. Errors go
-- through `ok` in the order of evaluation.
use Rattle.std.proofs.Common.{◌≡◌, Bool, true, false, not, cond, if◌then◌else◌, Option, Ok, Err, refl, ap, sym, subst, ◌∙◌}
use Rattle.sc_values.specs.declared.value.Value.{Value, out-Value}
use Rattle.sc_values.specs.declared.value.Value.TheVariants as value
use Rattle.sc_values.proofs.OutLaws.{out_Bool}
use Rattle.sc_world.specs.declared.world.World.{World}
use Rattle.sc_eval.specs.Outcomes.{Outcome, ◌>>=◌, bool_in, decide, of_bool}
use Rattle.sc_terms.specs.Trees.{Tree}
use Rattle.sc_terms.specs.Folds.{truth_term, not_term, and_term, or_term, choice_term}
use Rattle.sc_terms.specs.Values.{Val, it, yes, seen, val, not_value, and_seen, and_value, or_seen, or_value, choice_value}
use Rattle.sc_terms.proofs.FoldValues.{seen_yes, truth_yes, not_yes, truth_is, not_is, and_is, or_is, choice_is}
use Rattle.sc_constructs.specs.Code.{Code, always, constant, after, after_both, where_so, choice_code, branch_code, or_code, and_code, not_code, is_code}
use Rattle.sc_symeval.specs.Agreement.{Meets, Agrees}

-- ---- connectives of truth values

pub and_yes : (b : Bool) (y : Val) → and_value (yes b) y ≡ cond b y (yes false)
unfolding and_value
and_yes true y = ap (λ (o : Option Bool). and_seen o (seen y) (yes true) y) (seen_yes true)
and_yes false y = ap (λ (o : Option Bool). and_seen o (seen y) (yes false) y) (seen_yes false)

pub or_yes : (b : Bool) (y : Val) → or_value (yes b) y ≡ cond b (yes true) y
unfolding or_value
or_yes true y = ap (λ (o : Option Bool). or_seen o (seen y) (yes true) y) (seen_yes true)
or_yes false y = ap (λ (o : Option Bool). or_seen o (seen y) (yes false) y) (seen_yes false)

-- equal values serve alike
pub meets_same : (g h t u : Val) (o : Outcome) → g ≡ h → t ≡ u → Meets h u o → Meets g t o
meets_same g h t u (Ok x) e f m = (e ∙ m.0, f ∙ m.1)
meets_same g h t u (Err x) e f m = e ∙ m

-- a value that is a truth value decides
pub decided : (x : Value) (b : Bool) (f : Bool → Outcome) → x ≡ value.Bool b → decide (Ok x) f ≡ f b
decided x b f is = ap (λ z. bool_in z >>= f) (ap out-Value is ∙ out_Bool b)

module _ (w : World) where
  -- ---- what `ok` joins

  pub and_ok : (a b : Tree) (p : Bool) → val a w ≡ yes p → val (and_term a b) w ≡ cond p (val b w) (yes false)
  and_ok a b p h = and_is a b w ∙ ap (λ (v : Val). and_value v (val b w)) h ∙ and_yes p (val b w)

  pub or_ok : (a b : Tree) (p : Bool) → val a w ≡ yes p → val (or_term a b) w ≡ cond p (yes true) (val b w)
  or_ok a b p h = or_is a b w ∙ ap (λ (v : Val). or_value v (val b w)) h ∙ or_yes p (val b w)

  pub not_ok : (a : Tree) (p : Bool) → val a w ≡ yes p → val (not_term a) w ≡ yes (not p)
  not_ok a p h = not_is a w ∙ ap not_value h ∙ not_yes p

  pub chosen : (c a b : Tree) (r : Bool) → val c w ≡ yes r → val (choice_term c a b) w ≡ cond r (val a w) (val b w)
  chosen c a b r g = choice_is c a b w ∙ ap (λ (v : Val). choice_value v (val a w) (val b w)) g ∙ ap (λ (d : Bool). cond d (val a w) (val b w)) (truth_yes r)

  -- ---- operands that are evaluated one after the other

  pub always_agrees : (t : Tree) (x : Value) → val t w ≡ it x → Agrees w (always t) (Ok x)
  always_agrees t x h = (truth_is true w, h)

  pub constant_agrees : (b : Bool) → Agrees w (constant b) (of_bool b)
  constant_agrees b = (truth_is true w, truth_is b w)

  -- one operand, and a term that has a value where the operand has
  pub after_agrees : (a : Code) (t : Tree) (o : Outcome) (f : Value → Outcome) → Agrees w a o
      → ((x : Value) → o ≡ Ok x → val a.val w ≡ it x → Meets (yes true) (val t w) (f x)) → Agrees w (after a t) (o >>= f)
  after_agrees a t (Ok x) f h k = meets_same _ (yes true) _ (val t w) (f x) h.0 refl (k x refl h.1)
  after_agrees a t (Err e) f h k = h

  -- two
  pub both_agree : (a b : Code) (t : Tree) (o p : Outcome) (f : Value → Value → Outcome) → Agrees w a o → Agrees w b p
      → ((x y : Value) → o ≡ Ok x → p ≡ Ok y → val a.val w ≡ it x → val b.val w ≡ it y → Meets (yes true) (val t w) (f x y))
      → Agrees w (after_both a b t) (o >>= λ x. p >>= λ y. f x y)
  both_agree a b t (Ok x) (Ok y) f h k g = meets_same _ (yes true) _ (val t w) (f x y) (and_ok a.ok b.ok true h.0 ∙ k.0) refl (g x y refl refl h.1 k.1)
  both_agree a b t (Ok x) (Err e) f h k g = and_ok a.ok b.ok true h.0 ∙ k
  both_agree a b t (Err e) p f h k g = and_ok a.ok b.ok false h

  -- two, and something else that has to be so
  pub where_agrees : (a b : Code) (so t : Tree) (o p : Outcome) (f : Value → Value → Outcome) → Agrees w a o → Agrees w b p
      → ((x y : Value) → o ≡ Ok x → p ≡ Ok y → val a.val w ≡ it x → val b.val w ≡ it y → Meets (val so w) (val t w) (f x y))
      → Agrees w (where_so a b so t) (o >>= λ x. p >>= λ y. f x y)
  where_agrees a b so t (Ok x) (Ok y) f h k g =
      meets_same _ (val so w) _ (val t w) (f x y) (and_ok a.ok (and_term b.ok so) true h.0 ∙ and_ok b.ok so true k.0) refl (g x y refl refl h.1 k.1)
  where_agrees a b so t (Ok x) (Err e) f h k g = and_ok a.ok (and_term b.ok so) true h.0 ∙ and_ok b.ok so false k
  where_agrees a b so t (Err e) p f h k g = and_ok a.ok (and_term b.ok so) false h

  -- ---- `if`, `||`, `&&`, `!`

  -- what an operand comes to is a truth value
  abbrev pub IsTruth : Outcome → Type 0
  IsTruth (Ok x) = (b : Bool) × (x ≡ value.Bool b)
  IsTruth (Err e) = Unit {0}

  pub choice_agrees : (c a b : Code) (o p q : Outcome) → Agrees w c o → IsTruth o → ((x : Value) → o ≡ Ok x → x ≡ value.Bool true → Agrees w a p)
      → ((x : Value) → o ≡ Ok x → x ≡ value.Bool false → Agrees w b q) → Agrees w (choice_code c a b) (decide o (λ r. if r then p else q))
  choice_agrees c a b (Err e) p q h t k l = and_ok c.ok (choice_term c.val a.ok b.ok) false h
  choice_agrees c a b (Ok x) p q h t k l =
      subst (Meets _ _) (sym (decided x t.0 (λ r. if r then p else q) t.1))
      (by t.0 (h.1 ∙ ap it t.1) t.1)
    where
      by : (r : Bool) → val c.val w ≡ yes r → x ≡ value.Bool r → Agrees w (choice_code c a b) (if r then p else q)
      by true g e = meets_same _ (val a.ok w) _ (val a.val w) p
          (and_ok c.ok (choice_term c.val a.ok b.ok) true h.0 ∙ chosen c.val a.ok b.ok true g) (chosen c.val a.val b.val true g) (k x refl e)
      by false g e = meets_same _ (val b.ok w) _ (val b.val w) q
          (and_ok c.ok (choice_term c.val a.ok b.ok) true h.0 ∙ chosen c.val a.ok b.ok false g) (chosen c.val a.val b.val false g) (l x refl e)

  -- a branch that is always taken
  pub branch_agrees : (c a : Code) (o p : Outcome) (r : Bool) (f : Bool → Outcome) → Agrees w c o → ((x : Value) → o ≡ Ok x → x ≡ value.Bool r) → f r ≡ p
      → ((x : Value) → o ≡ Ok x → Agrees w a p) → Agrees w (branch_code c a) (decide o f)
  branch_agrees c a (Ok x) p r f h t e k =
      subst (Meets _ _) (sym (decided x r f (t x refl) ∙ e)) (meets_same _ (val a.ok w) _ (val a.val w) p (and_ok c.ok a.ok true h.0) refl (k x refl))
  branch_agrees c a (Err e) p r f h t f_is k = and_ok c.ok a.ok false h

  pub or_agrees : (a b : Code) (o p : Outcome) → Agrees w a o → IsTruth o → ((x : Value) → o ≡ Ok x → x ≡ value.Bool false → Agrees w b p × IsTruth p)
      → Agrees w (or_code a b) (decide o (λ r. if r then of_bool true else decide p of_bool))
  or_agrees a b (Err e) p h t k = and_ok a.ok (or_term a.val b.ok) false h
  or_agrees a b (Ok x) p h t k = subst (Meets _ _) (sym (decided x t.0 _ t.1)) (by t.0 (h.1 ∙ ap it t.1) t.1)
    where
      same : (q : Outcome) → Agrees w b q → IsTruth q → Agrees w b (decide q of_bool)
      same (Ok y) m u = subst (Meets _ _) (sym (decided y u.0 of_bool u.1)) (m.0, m.1 ∙ ap it u.1)
      same (Err e) m u = m

      by : (r : Bool) → val a.val w ≡ yes r → x ≡ value.Bool r → Agrees w (or_code a b) (if r then of_bool true else decide p of_bool)
      by true g e = (and_ok a.ok (or_term a.val b.ok) true h.0 ∙ or_ok a.val b.ok true g, or_ok a.val b.val true g)
      by false g e =
          let m = k x refl e in
          meets_same _ (val b.ok w) _ (val b.val w) (decide p of_bool) (and_ok a.ok (or_term a.val b.ok) true h.0 ∙ or_ok a.val b.ok false g) (or_ok a.val b.val false g) (same p m.0 m.1)

  pub and_agrees : (a b : Code) (o p : Outcome) → Agrees w a o → IsTruth o → ((x : Value) → o ≡ Ok x → x ≡ value.Bool true → Agrees w b p × IsTruth p)
      → Agrees w (and_code a b) (decide o (λ r. if r then decide p of_bool else of_bool false))
  and_agrees a b (Err e) p h t k = and_ok a.ok (or_term (not_term a.val) b.ok) false h
  and_agrees a b (Ok x) p h t k = subst (Meets _ _) (sym (decided x t.0 _ t.1)) (by t.0 (h.1 ∙ ap it t.1) t.1)
    where
      same : (q : Outcome) → Agrees w b q → IsTruth q → Agrees w b (decide q of_bool)
      same (Ok y) m u = subst (Meets _ _) (sym (decided y u.0 of_bool u.1)) (m.0, m.1 ∙ ap it u.1)
      same (Err e) m u = m

      by : (r : Bool) → val a.val w ≡ yes r → x ≡ value.Bool r → Agrees w (and_code a b) (if r then decide p of_bool else of_bool false)
      by true g e =
          let m = k x refl e in
          meets_same _ (val b.ok w) _ (val b.val w) (decide p of_bool)
          (and_ok a.ok (or_term (not_term a.val) b.ok) true h.0 ∙ or_ok (not_term a.val) b.ok false (not_ok a.val true g)) (and_ok a.val b.val true g) (same p m.0 m.1)
      by false g e = (and_ok a.ok (or_term (not_term a.val) b.ok) true h.0 ∙ or_ok (not_term a.val) b.ok true (not_ok a.val false g), and_ok a.val b.val false g)

  -- a right side that is skipped
  pub or_skipped : (a : Code) (o p : Outcome) → Agrees w a o → ((x : Value) → o ≡ Ok x → x ≡ value.Bool true) → Agrees w a (decide o (λ r. if r then of_bool true else decide p of_bool))
  or_skipped a (Ok x) p h t = subst (Meets _ _) (sym (decided x true _ (t x refl))) (h.0, h.1 ∙ ap it (t x refl))
  or_skipped a (Err e) p h t = h

  pub and_skipped : (a : Code) (o p : Outcome) → Agrees w a o → ((x : Value) → o ≡ Ok x → x ≡ value.Bool false) → Agrees w a (decide o (λ r. if r then decide p of_bool else of_bool false))
  and_skipped a (Ok x) p h t = subst (Meets _ _) (sym (decided x false _ (t x refl))) (h.0, h.1 ∙ ap it (t x refl))
  and_skipped a (Err e) p h t = h

  pub not_agrees : (a : Code) (o : Outcome) → Agrees w a o → IsTruth o → Agrees w (not_code a) (decide o (λ r. of_bool (not r)))
  not_agrees a (Ok x) h t = subst (Meets _ _) (sym (decided x t.0 _ t.1)) (h.0, not_ok a.val t.0 (h.1 ∙ ap it t.1))
  not_agrees a (Err e) h t = h

  -- a truth value that is always the same where an operand has a value
  pub is_agrees : (a : Code) (b : Bool) (o : Outcome) (f : Value → Outcome) → Agrees w a o → ((x : Value) → o ≡ Ok x → f x ≡ of_bool b) → Agrees w (is_code b a) (o >>= f)
  is_agrees a b o f h k = after_agrees a (truth_term b) o f h (λ x e g. subst (Meets _ _) (sym (k x e)) (refl, truth_is b w))
