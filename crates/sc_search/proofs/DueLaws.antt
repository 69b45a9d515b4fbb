-- The literals on a trail were reached by decisions and unit propagation.
use Rattle.std.proofs.Common.{◌≡◌, inl, inr, ⊎_elim, ℕ, zero, suc, ◌+◌, ◌<◌, ◌≤◌, List, [], ◌∷◌, Bool, true, false, length, get_or, refl, sym, ◌∙◌, subst, true≢false, arith}
use Rattle.std.specs.List.{Contains}
use Rattle.std.proofs.lemmas.List.{get_or_default}
use Rattle.sc_lists.proofs.ListLaws.{contains_nothing, contains_first}
use Rattle.sc_clauses.specs.Clauses.{negation, Clause}
use Rattle.sc_clauses.specs.declared.lit.Lit.{Lit}
use Rattle.sc_propagation.specs.Propagation.{IsSettledBy, IsReached, at_first, implied, decided, FallsBy, HasConflict}
use Rattle.sc_propagation.specs.Readings.{IsFalsified}
use Rattle.sc_propagation.specs.Steps.{At}
use Rattle.sc_propagation.specs.Trails.{true_before, cell_of, IsQuiet, AreQuiet, IsTrail}
use Rattle.sc_propagation.specs.declared.cell.Cell.{Cell}
use Rattle.sc_propagation.specs.declared.cell.Cell.TheVariants.{Free, Decided, Implied}
use Rattle.sc_propagation.proofs.AnalysisLaws.{before-cases, trail-at, not-free, reason-at, decision-at}
use Rattle.sc_propagation.proofs.CellLaws.{consistent, before-more, at-before, before-at}
use Rattle.sc_propagation.proofs.LitLaws.{cons-cases, tail-has}

-- the literals that are true before a place were reached
record Reaches (cs : List Clause) (cells : List Cell) (i : ℕ) : Type 0 where
  pub known : List Lit
  pub reached : IsReached cs known
  pub are_true : (m : Lit) → Contains known m → true_before cells i m ≡ true
  pub are_known : (m : Lit) → true_before cells i m ≡ true → Contains known m

-- a clause that is quiet under a set of literals is settled by their list
settled : (T : Lit → Bool) (known : List Lit) → ((m : Lit) → Contains known m → T m ≡ true) → ((m : Lit) → T m ≡ true → Contains known m) → (c : Clause) → IsQuiet T c → IsSettledBy known c
settled T known are_true are_known c (inl (y, cy, ty)) = inl (y, cy, are_known y ty)
settled T known are_true are_known c (inr (y, z, cy, cz, ne, fy, fz)) =
    inr (y, z, cy, cz, ne, (λ h. true≢false (sym (are_true (negation y) h) ∙ fy)), (λ h. true≢false (sym (are_true (negation z) h) ∙ fz)))

module _ (n : ℕ) (cs : List Clause) (cells : List Cell) (trail : List Lit) (levels : List ℕ) (sound : IsTrail n cs cells trail levels (length trail)) where
  quiet-at : (i : ℕ) → Contains levels i → AreQuiet (true_before cells i) cs
  quiet-at i (k, lt, e) = subst (λ (q : ℕ). AreQuiet (true_before cells q) cs) (get_or_default levels k 0 i lt ∙ e) (sound.quiet k lt)

  module _ (i : ℕ) (l : Lit) (at : At trail i l) (before : Reaches cs cells i) where
    not-false : ¬ Contains before.known (negation l)
    not-false h =
        let lt : i < length trail = at.0 in
        let l_true : true_before cells (length trail) l ≡ true = at-before cells l i (length trail) (trail-at cells trail sound.agree i l at) lt in
        let l_false : true_before cells (length trail) (negation l) ≡ true = before-more cells i (length trail) (negation l) (omega arith) (before.are_true (negation l) h) in
        true≢false (sym l_false ∙ consistent cells (length trail) l l_true)

    more-reached : (c : Cell) → cell_of cells l ≡ c → IsReached cs (l ∷ before.known)
    more-reached Free e = absurd (not-free cells trail sound.agree i l at e)
    more-reached (Decided s q) e =
        let quiet = quiet-at i (decision-at n cs cells trail levels sound i l at s q e) in
        decided before.known l before.reached (λ c has. settled (true_before cells i) before.known before.are_true before.are_known c (quiet c has)) not-false
    more-reached (Implied s q r) e =
        let why = reason-at n cs cells trail levels sound i l at s q r e in
        implied before.known why.clause l before.reached (r, why.at.0, why.at.1) why.has (λ m has ne. before.are_known (negation m) (why.others m has ne))

    one-more : Reaches cs cells (i + 1)
    one-more = record {
      known = l ∷ before.known;
      reached = more-reached (cell_of cells l) refl;
      are_true = λ m has.
          ⊎_elim
          (λ (e : l ≡ m). subst (λ (w : Lit). true_before cells (i + 1) w ≡ true) e (at-before cells l i (i + 1) (trail-at cells trail sound.agree i l at) (omega arith)))
          (λ (old : Contains before.known m). before-more cells i (i + 1) m (omega arith) (before.are_true m old))
          (cons-cases l m before.known has);
      are_known = λ m e.
          ⊎_elim
          (λ (is : l ≡ m). subst (λ (w : Lit). Contains (l ∷ before.known) w) is (contains_first l before.known))
          (λ (old : true_before cells i m ≡ true). tail-has l m before.known (before.are_known m old))
          (before-cases cells trail sound.agree i l m at e);
    }

  reaches : (i : ℕ) → i ≤ length trail → Reaches cs cells i
  reaches zero h = record {
    known = [];
    reached = at_first;
    are_true = λ m has. absurd (contains_nothing m has);
    are_known = λ m e. let w = before-at cells m 0 e in let lt : w.0 < 0 = w.1 in absurd (omega arith);
  }
  reaches (suc i) h =
      let none : Lit = record { atom = 0; negated = false } in
      let l : Lit = get_or trail i none in
      let lt : i < length trail = omega (arith, h) in
      let at : At trail i l = sound.agree.on_trail l i (sound.agree.placed i none lt) in
      let e : i + 1 ≡ suc i = omega arith in
      subst (λ (k : ℕ). Reaches cs cells k) e (one-more i l at (reaches i (omega (arith, h))))

  -- a clause that the trail makes false falls
  pub falls : (c : Clause) → ((m : Lit) → Contains c m → true_before cells (length trail) (negation m) ≡ true) → FallsBy cs c
  falls c false' = let end = reaches (length trail) (omega arith) in (end.known, end.reached, λ m has. end.are_known (negation m) (false' m has))

  pub has-conflict : (i : ℕ) → IsFalsified cs cells (length trail) i → HasConflict cs
  has-conflict i (c, at, false') = (c, (i, at.0, at.1), falls c false')
