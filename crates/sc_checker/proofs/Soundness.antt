-- What hints show is true where the clauses before it are.
use Rattle.std.proofs.Common.{◌≡◌, ◌-◌, ◌==◌, ℕ, zero, suc, List, [], ◌∷◌, ◌++◌, Bool, true, false, not, cond, ◌&&◌, ◌||◌, Option, Some, None, Ok, Err, slice_get, IfSome, refl, sym, ap, ◌∙◌, subst, ⊎_elim}
use Rattle.std.specs.Prelude.{⊤}
use Rattle.std.specs.List.{list_all, AllByRecursion}
use Rattle.std.proofs.lemmas.Bool.{and_parts, or_cases, not-false, true≢false}
use Rattle.sc_laws.proofs.BoolLaws.{or_first, or_second}
use Rattle.sc_clauses.specs.declared.lit.Lit.{Lit}
use Rattle.sc_clauses.specs.Clauses.{Clause, lit_eq, negation, is_in, holds, clause_holds}
use Rattle.sc_refutations.specs.declared.refuting.Residual.{Residual}
use Rattle.sc_refutations.specs.declared.refuting.Residual.TheVariants.{Conflict, Unit, Open}
use Rattle.sc_clauses.specs.declared.step.Learned as learned
use Rattle.sc_checker.specs.declared.checking.Reason.TheVariants.{NotRefuted}
use Rattle.sc_refutations.specs.Refutations.{LitSet, negated, with_lit, open_lits, residual, residual_at, clause_at, is_nil, goes_on, refutes, is_clause}
use Rattle.sc_checker.specs.Verdicts.{of_learned}
use Rattle.sc_clauses.proofs.LitLaws.{lit_eq-true, holds_negation}

abbrev pub AllHold : (ℕ → Bool) → List Clause → Type 0
AllHold v cs = AllByRecursion (λ c. clause_holds v c ≡ true) cs

-- each literal of the set is true
abbrev AllTrue : (ℕ → Bool) → LitSet → Type 0
AllTrue v known = (l : Lit) → known l ≡ true → holds v l ≡ true

-- ---- what is left of a true clause

open_at : (v : ℕ → Bool) (known : LitSet) (l : Lit) (ls : Clause) (is_false truth : Bool) → AllTrue v known → known (negation l) ≡ is_false → holds v l ≡ truth → truth || clause_holds v ls ≡ true
    → (clause_holds v ls ≡ true → clause_holds v (open_lits known ls) ≡ true) → clause_holds v (cond (not is_false) (l ∷ open_lits known ls) (open_lits known ls)) ≡ true
open_at v known l ls true true t k h e later = absurd (true≢false (sym (t (negation l) k) ∙ holds_negation v l ∙ ap not h))
open_at v known l ls true false t k h e later = later e
open_at v known l ls false true t k h e later = ap (λ b. b || clause_holds v (open_lits known ls)) h
open_at v known l ls false false t k h e later = ap (λ b. b || clause_holds v (open_lits known ls)) h ∙ later e

open-holds : (v : ℕ → Bool) (known : LitSet) (c : Clause) → AllTrue v known → clause_holds v c ≡ true → clause_holds v (open_lits known c) ≡ true
open-holds v known [] t e = e
open-holds v known (l ∷ ls) t e = open_at v known l ls _ _ t refl refl e (open-holds v known ls t)

-- a residual that a true clause may leave
abbrev Sound : (ℕ → Bool) → Residual → Type 0
Sound v Conflict = ⊥
Sound v (Unit l) = holds v l ≡ true
Sound v Open = ⊤

same-holds : (v : ℕ → Bool) (l : Lit) (ls : List Lit) → list_all (lit_eq l) ls ≡ true → clause_holds v ls ≡ true → holds v l ≡ true
same-holds v l [] a e = absurd (true≢false (sym e))
same-holds v l (m ∷ ls) a e =
    let parts = and_parts (lit_eq l m) (list_all (lit_eq l) ls) a in
    ⊎_elim (λ (h : holds v m ≡ true). subst (λ (x : Lit). holds v x ≡ true) (sym (lit_eq-true l m parts.0)) h) (λ (h : clause_holds v ls ≡ true). same-holds v l ls parts.1 h) (or_cases (holds v m) (clause_holds v ls) e)

unit-sound : (v : ℕ → Bool) (l : Lit) (ls : List Lit) (b : Bool) → list_all (lit_eq l) ls ≡ b → clause_holds v (l ∷ ls) ≡ true → Sound v (cond b (Unit l) Open)
unit-sound v l ls true a e = ⊎_elim (λ (h : holds v l ≡ true). h) (λ (h : clause_holds v ls ≡ true). same-holds v l ls a h) (or_cases (holds v l) (clause_holds v ls) e)
unit-sound v l ls false a e = tt

residual-sound : (v : ℕ → Bool) (ls : List Lit) → clause_holds v ls ≡ true → Sound v (residual ls)
residual-sound v [] e = true≢false (sym e)
residual-sound v (l ∷ ls) e = unit-sound v l ls _ refl e

holds-at : (v : ℕ → Bool) (cs : List Clause) (n : ℕ) → AllHold v cs → IfSome (slice_get cs n) (λ c. clause_holds v c ≡ true)
holds-at v [] n h = tt
holds-at v (c ∷ cs) zero h = h.0
holds-at v (c ∷ cs) (suc n) h = holds-at v cs n h.1

number-holds : (v : ℕ → Bool) (cs : List Clause) (n : ℕ) (b : Bool) → AllHold v cs → IfSome (cond b None (slice_get cs (n - 1))) (λ c. clause_holds v c ≡ true)
number-holds v cs n true h = tt
number-holds v cs n false h = holds-at v cs (n - 1) h

from-option : (v : ℕ → Bool) (known : LitSet) (o : Option Clause) → AllTrue v known → IfSome o (λ c. clause_holds v c ≡ true) → Sound v (residual_at known o)
from-option v known None t h = tt
from-option v known (Some c) t h = residual-sound v (open_lits known c) (open-holds v known c t h)

-- ---- hints and steps

false-negation : (v : ℕ → Bool) (l m : Lit) → lit_eq (negation l) m ≡ true → holds v m ≡ false → holds v l ≡ true
false-negation v l m s e = not-false (holds v l) (sym (holds_negation v l) ∙ ap (holds v) (lit_eq-true (negation l) m s) ∙ e)

goes_on-sound : (v : ℕ → Bool) (r : Residual) (is_last : Bool) (rest : Lit → Bool) → Sound v r → goes_on r is_last rest ≡ true → ((l : Lit) → holds v l ≡ true → rest l ≡ true → ⊥) → ⊥
goes_on-sound v Conflict is_last rest s e f = s
goes_on-sound v (Unit l) is_last rest s e f = f l s e
goes_on-sound v Open is_last rest s e f = absurd (true≢false (sym e))

true-more : (v : ℕ → Bool) (known : LitSet) (l : Lit) → AllTrue v known → holds v l ≡ true → AllTrue v (with_lit known l)
true-more v known l t h m e =
    ⊎_elim (λ (s : lit_eq m l ≡ true). subst (λ (x : Lit). holds v x ≡ true) (sym (lit_eq-true m l s)) h) (λ (k : known m ≡ true). t m k) (or_cases (lit_eq m l) (known m) e)

refutes-sound : (v : ℕ → Bool) (cs : List Clause) (known : LitSet) (hints : List ℕ) → AllHold v cs → AllTrue v known → refutes cs known hints ≡ true → ⊥
refutes-sound v cs known [] h t e = absurd (true≢false (sym e))
refutes-sound v cs known (n ∷ hints) h t e =
    goes_on-sound v (residual_at known (clause_at cs n)) (is_nil hints) (λ l. refutes cs (with_lit known l) hints) (from-option v known (clause_at cs n) t (number-holds v cs n (n == 0) h)) e
    (λ l s q. refutes-sound v cs (with_lit known l) hints h (true-more v known l t s) q)

-- the negations of a false clause's literals are true
negated-true : (v : ℕ → Bool) (c : Clause) → clause_holds v c ≡ false → AllTrue v (negated c)
negated-true v [] e l i = absurd (true≢false (sym i))
negated-true v (m ∷ c) e l i =
    ⊎_elim (λ (s : lit_eq (negation l) m ≡ true). false-negation v l m s (or_first (holds v m) (clause_holds v c) e)) (λ (k : is_in c (negation l) ≡ true). negated-true v c (or_second (holds v m) (clause_holds v c) e) l k)
    (or_cases (lit_eq (negation l) m) (is_in c (negation l)) i)

step-holds : (v : ℕ → Bool) (cs : List Clause) (c : Clause) (hints : List ℕ) (b : Bool) → AllHold v cs → refutes cs (negated c) hints ≡ true → clause_holds v c ≡ b → b ≡ true
step-holds v cs c hints true h e is = refl
step-holds v cs c hints false h e is = absurd (refutes-sound v cs (negated c) hints h (negated-true v c is) e)

-- a clause that hints show is true where those before it are
pub shown : (v : ℕ → Bool) (cs : List Clause) (c : Clause) (hints : List ℕ) → AllHold v cs → refutes cs (negated c) hints ≡ true → clause_holds v c ≡ true
shown v cs c hints h e = step-holds v cs c hints (clause_holds v c) h e refl

shown-holds : (v : ℕ → Bool) (cs : List Clause) (d c : Clause) (hints : List ℕ) (a b : Bool) → AllHold v cs → refutes cs (negated d) hints ≡ b → cond (a && b) (Ok d) (Err NotRefuted) ≡ Ok c → clause_holds v c ≡ true
shown-holds v cs d c hints true true h e is = let same : d ≡ c = cc in subst (λ (x : Clause). clause_holds v x ≡ true) same (step-holds v cs d hints _ h e refl)
shown-holds v cs d c hints true false h e is = absurd cc
shown-holds v cs d c hints false b h e is = absurd cc

-- a learned clause that is added is true where those before it are
pub learned-holds : (v : ℕ → Bool) (count : ℕ) (cs : List Clause) (l : learned.Learned) (c : Clause) → AllHold v cs → of_learned count cs l ≡ Ok c → clause_holds v c ≡ true
learned-holds v count cs l c h e = shown-holds v cs l.clause c l.hints (is_clause count l.clause) _ h refl e

pub all-push : (v : ℕ → Bool) (cs : List Clause) (c : Clause) → AllHold v cs → clause_holds v c ≡ true → AllHold v (cs ++ c ∷ [])
all-push v [] c h e = (e, tt)
all-push v (d ∷ cs) c h e = (h.0, all-push v cs c h.1 e)
