-- What cells say, and what a write to one changes.
use Rattle.std.proofs.Common.{◌≡◌, ◌≢◌, ⊎_elim, ℕ, ◌<◌, ◌≤◌, List, Bool, true, false, not, ◌&&◌, ltb, length, get_or, refl, sym, ap, ◌∙◌, subst, arith, get_or-set_same, get_or-set_other}
use mathlib.Core.Path.{fun_ext}
use Rattle.std.proofs.Math.ListN.{set}
use Rattle.std.proofs.lemmas.Bool.Decides.{Decides-ltb}
use Rattle.std.proofs.lemmas.Bool.{and_from, false_from_ne_true, cases_eq}
use Rattle.sc_laws.proofs.BoolLaws.{and_second, and_first}
use Rattle.sc_clauses.specs.Clauses.{bool_eq}
use Rattle.sc_clauses.specs.declared.lit.Lit.{Lit}
use Rattle.sc_propagation.specs.Trails.{set_before, cell_of, true_before, set_at, HasPlace, IsSingle}
use Rattle.sc_propagation.specs.declared.cell.Cell.{Cell}
use Rattle.sc_propagation.specs.declared.cell.Cell.TheVariants.{Free, Decided, Implied}
use Rattle.sc_clauses.proofs.LitLaws.{bool_eq-true, bool_eq-itself}

-- a cell with one sign hasn't the other
sign-other : (n s : Bool) (q p : ℕ) → bool_eq n s && ltb q p ≡ true → bool_eq n (not s) && ltb q p ≡ false
sign-other true true q p e = refl
sign-other true false q p e = absurd cc
sign-other false true q p e = absurd cc
sign-other false false q p e = refl

cell-consistent : (c : Cell) (p : ℕ) (s : Bool) → set_before c p s ≡ true → set_before c p (not s) ≡ false
cell-consistent Free p s e = refl
cell-consistent (Decided n q) p s e = sign-other n s q p e
cell-consistent (Implied n q r) p s e = sign-other n s q p e

pub consistent : (cells : List Cell) (p : ℕ) → IsSingle (true_before cells p)
consistent cells p l e = cell-consistent (cell_of cells l) p l.negated e

ltb-more : (q p p' : ℕ) → p ≤ p' → ltb q p ≡ true → ltb q p' ≡ true
ltb-more q p p' h e = let lt : q < p = (Decides-ltb q p).0 e in (Decides-ltb q p').1 (omega arith)

cell-more : (c : Cell) (p p' : ℕ) (s : Bool) → p ≤ p' → set_before c p s ≡ true → set_before c p' s ≡ true
cell-more Free p p' s h e = absurd cc
cell-more (Decided n q) p p' s h e = and_from _ _ (and_first (bool_eq n s) _ e) (ltb-more q p p' h (and_second (bool_eq n s) _ e))
cell-more (Implied n q r) p p' s h e = and_from _ _ (and_first (bool_eq n s) _ e) (ltb-more q p p' h (and_second (bool_eq n s) _ e))

pub before-more : (cells : List Cell) (p p' : ℕ) (l : Lit) → p ≤ p' → true_before cells p l ≡ true → true_before cells p' l ≡ true
before-more cells p p' l h e = cell-more (cell_of cells l) p p' l.negated h e

-- a literal whose place is before p is true before p
cell-at-before : (c : Cell) (s : Bool) (i p : ℕ) → set_at c s i → i < p → set_before c p s ≡ true
cell-at-before Free s i p a h = absurd a
cell-at-before (Decided n q) s i p (e, f) h = and_from _ _ (subst (λ (x : Bool). bool_eq n x ≡ true) e (bool_eq-itself n)) ((Decides-ltb q p).1 (omega arith))
cell-at-before (Implied n q r) s i p (e, f) h = and_from _ _ (subst (λ (x : Bool). bool_eq n x ≡ true) e (bool_eq-itself n)) ((Decides-ltb q p).1 (omega arith))

pub at-before : (cells : List Cell) (l : Lit) (i p : ℕ) → HasPlace cells l i → i < p → true_before cells p l ≡ true
at-before cells l i p a h = cell-at-before (cell_of cells l) l.negated i p a h

cell-before-at : (c : Cell) (s : Bool) (p : ℕ) → set_before c p s ≡ true → (i : ℕ) × (i < p) × set_at c s i
cell-before-at Free s p e = absurd cc
cell-before-at (Decided n q) s p e = (q, (Decides-ltb q p).0 (and_second (bool_eq n s) _ e), (bool_eq-true n s (and_first _ _ e), refl))
cell-before-at (Implied n q r) s p e = (q, (Decides-ltb q p).0 (and_second (bool_eq n s) _ e), (bool_eq-true n s (and_first _ _ e), refl))

pub before-at : (cells : List Cell) (l : Lit) (p : ℕ) → true_before cells p l ≡ true → (i : ℕ) × (i < p) × HasPlace cells l i
before-at cells l p e = cell-before-at (cell_of cells l) l.negated p e

cell-at-one : (c : Cell) (s : Bool) (i j : ℕ) → set_at c s i → set_at c s j → i ≡ j
cell-at-one Free s i j a b = absurd a
cell-at-one (Decided n q) s i j a b = sym a.1 ∙ b.1
cell-at-one (Implied n q r) s i j a b = sym a.1 ∙ b.1

-- one whose place is p or later isn't true before p
pub at-not-before : (cells : List Cell) (l : Lit) (i p : ℕ) → HasPlace cells l i → p ≤ i → true_before cells p l ≡ false
at-not-before cells l i p a h =
    false_from_ne_true _ (λ e. let w = before-at cells l p e in let same : i ≡ w.0 = cell-at-one (cell_of cells l) l.negated i w.0 a w.2 in let lt : w.0 < p = w.1 in absurd (omega arith))

-- a write that changes nothing before p
pub before-set : (cells : List Cell) (a p : ℕ) (x : Cell) → a < length cells → ((s : Bool) → set_before x p s ≡ set_before (get_or cells a Free) p s)
    → true_before (set cells a x) p ≡ true_before cells p
before-set cells a p x h same =
    fun_ext (λ (m : Lit).
    ⊎_elim
    (λ (e : m.atom ≡ a).
    subst (λ (b : ℕ). set_before (get_or (set cells a x) b Free) p m.negated ≡ set_before (get_or cells b Free) p m.negated) (sym e)
    (ap (λ (c : Cell). set_before c p m.negated) (get_or-set_same cells a x Free h) ∙ same m.negated))
    (λ (ne : m.atom ≢ a). ap (λ (c : Cell). set_before c p m.negated) (get_or-set_other cells a m.atom x Free ne))
    (cases_eq m.atom a))
