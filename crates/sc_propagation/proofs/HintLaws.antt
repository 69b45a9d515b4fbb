-- When hints refute what is known, and what hints that refute are.
use Rattle.std.proofs.Common.{◌≡◌, ◌≢◌, ◌⊎◌, inl, inr, ⊎_elim, ℕ, zero, suc, ◌-◌, ◌^◌, ◌<◌, ◌≤◌, List, [], ◌∷◌, Bool, true, false, not, cond, length, Option, Some, None, slice_get, slice_index_or, refl, ap, sym, ◌∙◌, subst, true≢false, arith}
use Rattle.std.specs.List.{Contains, list_all}
use Rattle.std.proofs.Math.Dec.{eqb-suc-zero}
use Rattle.std.proofs.lemmas.Bool.{and_from, and_parts, or_cases, or_left, or_right}
use Rattle.std.proofs.lemmas.Option.{slice_get_within}
use Rattle.sc_lists.proofs.ListLaws.{contains_first, contains_nothing}
use Rattle.sc_clauses.specs.Clauses.{Clause, lit_eq, negation, is_in}
use Rattle.sc_clauses.specs.declared.lit.Lit.{Lit}
use Rattle.sc_clauses.proofs.LitLaws.{lit_eq-true, lit_eq-itself}
use Rattle.sc_refutations.specs.Refutations.{LitSet, with_lit, open_lits, residual, residual_at, clause_at, is_nil, goes_on, refutes}
use Rattle.sc_refutations.specs.declared.refuting.Residual.{Residual}
use Rattle.sc_refutations.specs.declared.refuting.Residual.TheVariants.{Conflict, Unit, Open}
use Rattle.sc_propagation.specs.Steps.{IsNumbered, IsNumber}
use Rattle.sc_propagation.proofs.LitLaws.{tail-has, cons-cases, has-in}
use Rattle.sc_propagation.proofs.WatchedLitLaws.{lit-cases}

-- ---- clauses by their numbers

got_at : (cs : List Clause) (k : ℕ) (c : Clause) → k < length cs → slice_index_or cs k c ≡ c → slice_get cs k ≡ Some c
got_at [] k c lt e = absurd (omega arith)
got_at (d ∷ cs) zero c lt e = ap Some e
got_at (d ∷ cs) (suc k) c lt e = got_at cs k c (omega arith) e

numbered_at : (cs : List Clause) (n : ℕ) (c : Clause) → IsNumbered cs n c → clause_at cs n ≡ Some c
numbered_at cs zero c (some, at) = absurd (omega arith)
numbered_at cs (suc n) c (some, at) = rw (eqb-suc-zero n) (got_at cs (suc n - 1) c at.0 at.1)

abbrev IsWithin : List Clause → ℕ → Type 0
IsWithin cs n = (0 < n) × (n ≤ length cs)

number_within : (cs : List Clause) (n : ℕ) (c : Clause) → clause_at cs n ≡ Some c → IsWithin cs n
number_within cs zero c e = absurd cc
number_within cs (suc n) c e =
    let got : slice_get cs (suc n - 1) ≡ Some c = rw (eqb-suc-zero n) at e in
    let lt : suc n - 1 < length cs = slice_get_within cs (suc n - 1) c got in
    (omega arith, omega arith)

-- ---- what is left of a clause

none_open : (known : LitSet) (c : Clause) → ((m : Lit) → Contains c m → known (negation m) ≡ true) → open_lits known c ≡ []
none_open known [] h = refl
none_open known (l ∷ c) h = rw (h l (contains_first l c)) (none_open known c (λ m k. h m (tail-has l m c k)))

module _ (known : LitSet) (l : Lit) (free : known (negation l) ≡ false) where
  same_at : (m : Lit) (c : Clause) (b : Bool) → (m ≡ l) ⊎ (known (negation m) ≡ true) → known (negation m) ≡ b → list_all (lit_eq l) (open_lits known c) ≡ true
      → list_all (lit_eq l) (cond (not b) (m ∷ open_lits known c) (open_lits known c)) ≡ true
  same_at m c true h e later = later
  same_at m c false (inl s) e later = and_from (lit_eq l m) (list_all (lit_eq l) (open_lits known c)) (subst (λ (x : Lit). lit_eq l x ≡ true) (sym s) (lit_eq-itself l)) later
  same_at m c false (inr k) e later = absurd (true≢false (sym k ∙ e))

  all_same : (c : Clause) → ((m : Lit) → Contains c m → (m ≡ l) ⊎ (known (negation m) ≡ true)) → list_all (lit_eq l) (open_lits known c) ≡ true
  all_same [] h = refl
  all_same (m ∷ c) h = same_at m c (known (negation m)) (h m (contains_first m c)) refl (all_same c (λ x k. h x (tail-has m x c k)))

  in_at : (m : Lit) (c : Clause) (b : Bool) → known (negation m) ≡ b → (lit_eq l m ≡ true) ⊎ (is_in c l ≡ true) → (is_in c l ≡ true → is_in (open_lits known c) l ≡ true)
      → is_in (cond (not b) (m ∷ open_lits known c) (open_lits known c)) l ≡ true
  in_at m c true e (inl s) later = absurd (true≢false (sym (subst (λ (x : Lit). known (negation x) ≡ true) (sym (lit_eq-true l m s)) e) ∙ free))
  in_at m c true e (inr k) later = later k
  in_at m c false e (inl s) later = or_left (lit_eq l m) (is_in (open_lits known c) l) s
  in_at m c false e (inr k) later = or_right (lit_eq l m) (is_in (open_lits known c) l) (later k)

  in_open : (c : Clause) → is_in c l ≡ true → is_in (open_lits known c) l ≡ true
  in_open [] e = absurd cc
  in_open (m ∷ c) e = in_at m c (known (negation m)) refl (or_cases (lit_eq l m) (is_in c l) e) (in_open c)

  one_open : (ls : List Lit) → list_all (lit_eq l) ls ≡ true → is_in ls l ≡ true → residual ls ≡ Unit l
  one_open [] a e = absurd cc
  one_open (x ∷ xs) a e =
      let parts = and_parts (lit_eq l x) (list_all (lit_eq l) xs) a in
      let same : l ≡ x = lit_eq-true l x parts.0 in
      subst (λ (y : Lit). residual (y ∷ xs) ≡ Unit l) same (rw parts.1 refl)

  left_alone : (c : Clause) → Contains c l → ((m : Lit) → Contains c m → m ≢ l → known (negation m) ≡ true) → residual (open_lits known c) ≡ Unit l
  left_alone c has others =
      one_open (open_lits known c)
      (all_same c (λ m k. ⊎_elim (λ (s : m ≡ l). inl s) (λ (ne : m ≢ l). inr (others m k ne)) (lit-cases m l)))
      (in_open c (has-in c l has))

-- ---- hints that refute

-- a clause whose literals are all false
pub refutes-conflict : (cs : List Clause) (known : LitSet) (h : ℕ) (c : Clause) → IsNumbered cs h c → ((m : Lit) → Contains c m → known (negation m) ≡ true) → refutes cs known (h ∷ []) ≡ true
refutes-conflict cs known h c at all = rw (numbered_at cs h c at, none_open known c all) refl

-- a clause with one literal that isn't false, which is true from then on
pub refutes-unit : (cs : List Clause) (known : LitSet) (h : ℕ) (hints : List ℕ) (c : Clause) (l : Lit) → IsNumbered cs h c → Contains c l → known (negation l) ≡ false
    → ((m : Lit) → Contains c m → m ≢ l → known (negation m) ≡ true) → refutes cs (with_lit known l) hints ≡ true → refutes cs known (h ∷ hints) ≡ true
refutes-unit cs known h hints c l at has free others rest = rw (numbered_at cs h c at, left_alone known l free c has others) rest

-- ---- each hint is the number of a clause

first_within : (cs : List Clause) (known : LitSet) (n : ℕ) (o : Option Clause) (is_last : Bool) (rest : Lit → Bool) → clause_at cs n ≡ o → goes_on (residual_at known o) is_last rest ≡ true → IsWithin cs n
first_within cs known n None is_last rest e goes = absurd cc
first_within cs known n (Some c) is_last rest e goes = number_within cs n c e

later_refutes : (r : Residual) (hs : List ℕ) (rest : Lit → Bool) (g : ℕ) → goes_on r (is_nil hs) rest ≡ true → Contains hs g → (l : Lit) × (rest l ≡ true)
later_refutes Conflict [] rest g e has = absurd (contains_nothing g has)
later_refutes Conflict (h ∷ hs) rest g e has = absurd cc
later_refutes (Unit l) hs rest g e has = (l, e)
later_refutes Open hs rest g e has = absurd cc

hint-within : (cs : List Clause) (known : LitSet) (hints : List ℕ) → refutes cs known hints ≡ true → (g : ℕ) → Contains hints g → IsWithin cs g
hint-within cs known [] e g has = absurd (contains_nothing g has)
hint-within cs known (h ∷ hs) e g has =
    ⊎_elim
    (λ (s : h ≡ g). subst (λ (n : ℕ). IsWithin cs n) s (first_within cs known h (clause_at cs h) (is_nil hs) (λ l. refutes cs (with_lit known l) hs) refl e))
    (λ (old : Contains hs g).
    let (l, rest) = later_refutes (residual_at known (clause_at cs h)) hs (λ l. refutes cs (with_lit known l) hs) g e old in
    hint-within cs (with_lit known l) hs rest g old)
    (cons-cases h g hs has)

pub some-hint : (cs : List Clause) (known : LitSet) (hints : List ℕ) → refutes cs known hints ≡ true → 0 < length hints
some-hint cs known [] e = absurd cc
some-hint cs known (h ∷ hs) e = omega arith

pub hint-number : (cs : List Clause) (known : LitSet) (hints : List ℕ) → refutes cs known hints ≡ true → length cs < 10 ^ 18 → (h : ℕ) → Contains hints h → IsNumber h
hint-number cs known hints e few h has = let w = hint-within cs known hints e h has in let le : h ≤ length cs = w.1 in (w.0, omega arith)
