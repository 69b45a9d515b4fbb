-- What tables say is symmetric, and so many texts are as the search for crowds asks.
use Rattle.std.proofs.Common.{◌≡◌, ◌||◌, ◌==◌, ◌<◌, ◌≤◌, ◌+◌, ℕ, Bool, true, false, List, [], ◌∷◌, Option, Some, None, length, get_or, set, if◌then◌else◌, ⊎_elim, refl, sym, ◌∙◌, ap, subst, arith, eq-eqb, get_or-set_same}
use Rattle.std.proofs.lemmas.Bool.{cases_eq, cases_lt}
use Rattle.sc_laws.proofs.BoolLaws.{never}
use Rattle.sc_laws.proofs.NumberLaws.{eqb_false}
use Rattle.sc_laws.proofs.OptionLaws.{same_some}
use Rattle.sc_falsified.specs.Crowds.{Signs, IsWithin}
use Rattle.sc_term_tests.specs.Tables.{Row, is_of, told_either, equal_by, with_sign, are_few}

or_turned : (a b : Bool) → (a || b) ≡ (b || a)
or_turned true true = refl
or_turned true false = refl
or_turned false true = refl
or_turned false false = refl

either_turned : (rs : List Row) (i j : ℕ) → told_either rs i j ≡ told_either rs j i
either_turned [] i j = refl
either_turned (r ∷ rs) i j = rw (or_turned (is_of r i j) (is_of r j i), either_turned rs i j) refl

eqb_turned : (i j : ℕ) → (i == j) ≡ (j == i)
eqb_turned i j =
    ⊎_elim (λ (e : i ≡ j). ap (λ k. k == j) e ∙ ap (λ k. j == k) (sym e))
    (λ other. eqb_false i j other ∙ sym (eqb_false j i (λ e. other (sym e)))) (cases_eq i j)

pub equal_turned : (rs : List Row) (i j : ℕ) → equal_by rs i j ≡ equal_by rs j i
equal_turned rs i j = rw (eqb_turned i j, either_turned rs i j) refl

pub equal_itself : (rs : List Row) (i : ℕ) → equal_by rs i i ≡ Some false → ⊥
equal_itself rs i e = never ⊥
    (same_some (sym (ap (λ (b : Bool). if b then Some true else told_either rs i i) (eq-eqb i i refl)) ∙ e))

pub few_none : (matching other : ℕ) (v : Signs) → are_few matching other v 0 → ⊥
few_none matching other v h = absurd (omega arith)

pub few_greater : (matching other : ℕ) (v : Signs) (k l : ℕ) → k ≤ l → are_few matching other v k
    → are_few matching other v l
few_greater matching other v k l more h = omega arith

asked_by : (matching other k : ℕ) (p q : Option Bool) → ((s : Bool) → p ≡ Some s → q ≡ Some s)
    → with_sign matching other p < k → with_sign matching other q < k
asked_by matching other k None None inside h = h
asked_by matching other k None (Some true) inside h = omega arith
asked_by matching other k None (Some false) inside h = omega arith
asked_by matching other k (Some s) q inside h =
    subst (λ (o : Option Bool). with_sign matching other o < k) (sym (inside s refl)) h

pub few_asked : (matching other : ℕ) (w v : Signs) (k : ℕ) → IsWithin w v → are_few matching other w k
    → are_few matching other v k
few_asked matching other w v k inside h = asked_by matching other k (get_or w 0 None) (get_or v 0 None) (inside 0) h

pub few_split : (matching other : ℕ) (v : Signs) (p k l : ℕ) → length v ≡ 1 → p < length v → get_or v p None ≡ None
    → are_few matching other v (k + l)
    → ¬ (are_few matching other (set v p (Some true)) k) → are_few matching other (set v p (Some false)) l
few_split matching other v p k l size place none h enough =
    let here : p ≡ 0 = omega arith in
    let asked : (s : Bool) → get_or (set v p (Some s)) 0 None ≡ Some s =
    λ s. subst (λ i. get_or (set v p (Some s)) i None ≡ Some s) here (get_or-set_same v p (Some s) None place) in
    let whole : matching + other < k + l =
    subst (λ (o : Option Bool). with_sign matching other o < k + l)
    (subst (λ i. get_or v i None ≡ None) here none) h in
    let many : k ≤ matching = ⊎_elim (λ (less : matching < k). absurd
    (enough (subst (λ (o : Option Bool). with_sign matching other o < k) (sym (asked true)) less))) (λ e. e)
    (cases_lt matching k) in
    subst (λ (o : Option Bool). with_sign matching other o < l) (sym (asked false)) (omega arith)
