-- The truth of a literal, the status of a clause, and what both say of all clauses.
use Rattle.std.proofs.Common.{◌≡◌, ◌≢◌, ⊎_elim, ℕ, ◌+◌, ◌<◌, ◌≤◌, List, [], ◌∷◌, ◌++◌, Bool, true, false, not, length, get_or, refl, sym, ap, ◌∙◌, subst, arith, take, Option, Some, None}
use Rattle.std.specs.List.{Contains}
use Rattle.std.proofs.lemmas.List.{get_or-take, length-take-le, take_more}
use Rattle.std.proofs.lemmas.List.Elements.{Contains-append_left, Contains-push, Contains-push_cases}
use Rattle.sc_clauses.proofs.LitLaws.{bool_eq-true}
use Rattle.sc_clauses.specs.Clauses.{negation, Clause, bool_eq}
use Rattle.sc_clauses.specs.declared.lit.Lit.{Lit}
use Rattle.sc_propagation.proofs.CellLaws.{at-before}
use Rattle.sc_propagation.specs.Readings.{AreTwoOpen, HasTruth, truth_of, signed, IsSoFar, IsUnitAt}
use Rattle.sc_propagation.specs.Steps.{At}
use Rattle.sc_propagation.specs.Trails.{set_before, cell_of, true_before, set_at, HasPlace, IsReason, Agree}
use Rattle.sc_propagation.specs.declared.cell.Cell.{Cell}
use Rattle.sc_propagation.specs.declared.cell.Cell.TheVariants.{Free, Decided, Implied}

pub at-end : (cells : List Cell) (trail : List Lit) → Agree cells trail → (l : Lit) (i : ℕ) → HasPlace cells l i → true_before cells (length trail) l ≡ true
at-end cells trail h l i at = at-before cells l i (length trail) at (h.on_trail l i at).0

sign-differs : (n s : Bool) → bool_eq n s ≡ false → n ≡ not s
sign-differs true s e = rw e refl
sign-differs false true e = refl
sign-differs false false e = absurd cc

signed-holds : (cells : List Cell) (trail : List Lit) (l : Lit) → Agree cells trail → (n : Bool) (q : ℕ) → ((s : Bool) → n ≡ s → set_at (cell_of cells l) s q) → (b : Bool) → bool_eq n l.negated ≡ b
    → HasTruth cells (length trail) l (signed b)
signed-holds cells trail l h n q at true e = at-end cells trail h l q (at l.negated (bool_eq-true _ _ e))
signed-holds cells trail l h n q at false e = at-end cells trail h (negation l) q (at (not l.negated) (sign-differs _ _ e))

truth-by : (cells : List Cell) (trail : List Lit) (l : Lit) → Agree cells trail → (c : Cell) → cell_of cells l ≡ c → HasTruth cells (length trail) l (truth_of c l.negated)
truth-by cells trail l h Free e = e
truth-by cells trail l h (Decided n q) e = signed-holds cells trail l h n q (λ s f. subst (λ (c : Cell). set_at c s q) (sym e) (f, refl)) (bool_eq n l.negated) refl
truth-by cells trail l h (Implied n q r) e = signed-holds cells trail l h n q (λ s f. subst (λ (c : Cell). set_at c s q) (sym e) (f, refl)) (bool_eq n l.negated) refl

pub truth-holds : (cells : List Cell) (trail : List Lit) (l : Lit) → Agree cells trail → HasTruth cells (length trail) l (truth_of (cell_of cells l) l.negated)
truth-holds cells trail l h = truth-by cells trail l h (cell_of cells l) refl

free-by : (c : Cell) (p : ℕ) (s : Bool) → c ≡ Free → set_before c p s ≡ false
free-by c p s e = ap (λ (x : Cell). set_before x p s) e

pub free-before : (cells : List Cell) (p : ℕ) (l : Lit) → cell_of cells l ≡ Free → true_before cells p (negation l) ≡ false
free-before cells p l e = free-by (cell_of cells l) p (not l.negated) e

sofar-push : (cells : List Cell) (p : ℕ) (c : List Lit) (o : Option Lit) (l : Lit) → IsSoFar cells p c o → true_before cells p (negation l) ≡ true → IsSoFar cells p (c ++ l ∷ []) o
sofar-push cells p c None l h f = λ m has. ⊎_elim (λ (old : Contains c m). h m old) (λ (e : l ≡ m). subst (λ (w : Lit). true_before cells p (negation w) ≡ true) e f) (Contains-push_cases c l m has)
sofar-push cells p c (Some u) l h f = (
  Contains-append_left c (l ∷ []) u h.0,
  h.1,
  λ m has ne. ⊎_elim (λ (old : Contains c m). h.2 m old ne) (λ (e : l ≡ m). subst (λ (w : Lit). true_before cells p (negation w) ≡ true) e f) (Contains-push_cases c l m has),
)

from-take : {X : Type 0} (i : ℕ) (c : List X) (u : X) → i ≤ length c → Contains (take i c) u → Contains c u
from-take i c u le (k, lt, is) = let len : length (take i c) ≡ i = length-take-le i c le in let h : k < i = omega arith in (k, omega arith, sym (get_or-take i c k u h) ∙ is)

module _ (cells : List Cell) (p : ℕ) (c : List Lit) (i : ℕ) (l : Lit) (in_range : i < length c) (is : l ≡ get_or c i l) where
  step : take (i + 1) c ≡ take i c ++ l ∷ []
  step = take_more c i l in_range ∙ ap (λ (w : Lit). take i c ++ w ∷ []) (sym is)

  pub sofar-false : (o : Option Lit) → IsSoFar cells p (take i c) o → true_before cells p (negation l) ≡ true → IsSoFar cells p (take (i + 1) c) o
  sofar-false o h f = subst (λ (d : List Lit). IsSoFar cells p d o) (sym step) (sofar-push cells p (take i c) o l h f)

  pub sofar-first : IsSoFar cells p (take i c) None → cell_of cells l ≡ Free → IsSoFar cells p (take (i + 1) c) (Some l)
  sofar-first h free =
      subst (λ (d : List Lit). IsSoFar cells p d (Some l)) (sym step)
      (Contains-push (take i c) l, free, λ m has ne. ⊎_elim (λ (old : Contains (take i c) m). h m old) (λ (e : l ≡ m). absurd (ne (sym e))) (Contains-push_cases (take i c) l m has))

  pub sofar-again : (u : Lit) → u ≡ l → IsSoFar cells p (take i c) (Some u) → IsSoFar cells p (take (i + 1) c) (Some u)
  sofar-again u same h =
      subst (λ (d : List Lit). IsSoFar cells p d (Some u)) (sym step) (
        Contains-append_left (take i c) (l ∷ []) u h.0,
        h.1,
        λ m has ne. ⊎_elim (λ (old : Contains (take i c) m). h.2 m old ne) (λ (e : l ≡ m). absurd (ne (sym (same ∙ e)))) (Contains-push_cases (take i c) l m has),
      )

  here : Contains c l
  here = (i, in_range, sym is)

  pub sofar-two : (u : Lit) → u ≢ l → IsSoFar cells p (take i c) (Some u) → cell_of cells l ≡ Free → AreTwoOpen cells c (record { first = u; second = l })
  sofar-two u ne h free = (from-take i c u (omega arith) h.0, here, ne, h.1, free)

  pub sofar-true : true_before cells p l ≡ true → (y : Lit) × Contains c y × (true_before cells p y ≡ true)
  sofar-true t = (l, here, t)

pub reason-of : (cs : List Clause) (cells : List Cell) (p i : ℕ) (c : Clause) (l : Lit) → At cs i c → IsUnitAt cells p c l → IsReason cs cells l p i
reason-of cs cells p i c l at u = record { clause = c; at = at; has = u.0; others = u.2 }
