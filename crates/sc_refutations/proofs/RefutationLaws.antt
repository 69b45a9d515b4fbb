-- Laws of what hints show.
use Rattle.std.proofs.Common.{◌≡◌, ◌+◌, ◌-◌, ◌<◌, ◌==◌, ℕ, zero, suc, List, [], ◌∷◌, ◌++◌, take, drop, drop-cons, get_or, length, Bool, true, false, not, cond, ◌&&◌, ◌||◌, Option, Some, None, slice_get, refl, sym, ap, ◌∙◌, subst}
use Rattle.std.proofs.Math.Path.{fun_ext}
use Rattle.std.specs.List.{list_all}
use Rattle.std.proofs.lemmas.List.{take_more, take-append-drop}
use Rattle.std.proofs.lemmas.List.Folds.{list_all-append}
use Rattle.std.proofs.lemmas.Bool.{and_parts, and_from, and_left, and_right, not-true, true≢false, or_right, or_left}
use Rattle.sc_laws.proofs.BoolLaws.{or_false, or_grouped}
use Rattle.sc_clauses.specs.declared.lit.Lit.{Lit}
use Rattle.sc_clauses.specs.Clauses.{Clause, bool_eq, lit_eq, negation, is_in}
use Rattle.sc_clauses.proofs.LitLaws.{lit_eq-true, lit_eq-itself, negation_twice}
use Rattle.sc_refutations.specs.declared.refuting.Residual.TheVariants.{Unit, Open}
use Rattle.sc_refutations.specs.Refutations.{LitSet, negated, with_lit, open_lits, residual, residual_at, clause_at, is_listed, is_clause, are_listed}

-- ---- what is left of a clause

open_is_at : (known : LitSet) (count : ℕ) (l : Lit) (ls : Clause) (b : Bool) → known (negation l) ≡ b → is_listed count l ≡ true
    → list_all (λ m. is_listed count m && not (known (negation m))) (open_lits known ls) ≡ true
    → list_all (λ m. is_listed count m && not (known (negation m))) (cond (not b) (l ∷ open_lits known ls) (open_lits known ls)) ≡ true
open_is_at known count l ls true is e later = later
open_is_at known count l ls false is e later = and_from _ _ (and_from _ _ e (ap not is)) later

open_is : (known : LitSet) (count : ℕ) (c : Clause) → list_all (is_listed count) c ≡ true → list_all (λ l. is_listed count l && not (known (negation l))) (open_lits known c) ≡ true
open_is known count [] e = refl
open_is known count (l ∷ ls) e =
    let parts = and_parts (is_listed count l) (list_all (is_listed count) ls) e in
    open_is_at known count l ls (known (negation l)) refl parts.0 (open_is known count ls parts.1)

unit_at : (known : LitSet) (count : ℕ) (l m : Lit) (b : Bool) → is_listed count m ≡ true → known (negation m) ≡ false → cond b (Unit m) Open ≡ Unit l → (is_listed count l ≡ true) × (known (negation l) ≡ false)
unit_at known count l m true p q e = let same : m ≡ l = cc in rw (← same) (p, q)
unit_at known count l m false p q e = absurd cc

unit_of : (known : LitSet) (count : ℕ) (l : Lit) (ls : List Lit) → list_all (λ m. is_listed count m && not (known (negation m))) ls ≡ true → residual ls ≡ Unit l → (is_listed count l ≡ true) × (known (negation l) ≡ false)
unit_of known count l [] a e = absurd cc
unit_of known count l (m ∷ ls) a e =
    let here = and_parts (is_listed count m) (not (known (negation m))) (and_parts (is_listed count m && not (known (negation m))) _ a).0 in
    unit_at known count l m (list_all (lit_eq m) ls) here.0 (not-true (known (negation m)) here.1) e

pub listed_at : (count : ℕ) (clauses : List Clause) (n : ℕ) (c : Clause) → are_listed count clauses ≡ true → slice_get clauses n ≡ Some c → list_all (is_listed count) c ≡ true
listed_at count [] n c a e = absurd cc
listed_at count (d ∷ clauses) zero c a e =
    let same : d ≡ c = cc in
    rw (← same) (and_parts (list_all (is_listed count) d) (are_listed count clauses) a).0
listed_at count (d ∷ clauses) (suc n) c a e = listed_at count clauses n c (and_parts (list_all (is_listed count) d) (are_listed count clauses) a).1 e

unit_from : (known : LitSet) (count : ℕ) (clauses : List Clause) (n : ℕ) (l : Lit) (o : Option Clause) → are_listed count clauses ≡ true → slice_get clauses n ≡ o → residual_at known o ≡ Unit l
    → (is_listed count l ≡ true) × (known (negation l) ≡ false)
unit_from known count clauses n l None a is e = absurd cc
unit_from known count clauses n l (Some c) a is e = unit_of known count l (open_lits known c) (open_is known count c (listed_at count clauses n c a is)) e

unit_by : (known : LitSet) (count : ℕ) (clauses : List Clause) (n : ℕ) (l : Lit) (b : Bool) → are_listed count clauses ≡ true → residual_at known (cond b None (slice_get clauses (n - 1))) ≡ Unit l
    → (is_listed count l ≡ true) × (known (negation l) ≡ false)
unit_by known count clauses n l true a e = absurd cc
unit_by known count clauses n l false a e = unit_from known count clauses (n - 1) l _ a refl e

-- the literal that is left of a clause is of a listed atom, and isn't false
pub unit_is : (known : LitSet) (count : ℕ) (clauses : List Clause) (n : ℕ) (l : Lit) → are_listed count clauses ≡ true → residual_at known (clause_at clauses n) ≡ Unit l
    → (is_listed count l ≡ true) × (known (negation l) ≡ false)
unit_is known count clauses n l a e = unit_by known count clauses n l (n == 0) a e

-- ---- assumed literals

lit_eq_negation : (m l : Lit) → lit_eq m (negation l) ≡ lit_eq (negation m) l
lit_eq_negation m l = ap (λ b. (m.atom == l.atom) && b) (by m.negated l.negated) where
  by : (a b : Bool) → bool_eq a (not b) ≡ bool_eq (not a) b
  by true true = refl
  by true false = refl
  by false true = refl
  by false false = refl

or_comm : (a b : Bool) → a || b ≡ b || a
or_comm true true = refl
or_comm true false = refl
or_comm false true = refl
or_comm false false = refl

is_in-append : (a b : Clause) (l : Lit) → is_in (a ++ b) l ≡ is_in a l || is_in b l
is_in-append [] b l = refl
is_in-append (m ∷ a) b l = ap (λ t. lit_eq l m || t) (is_in-append a b l) ∙ or_grouped (lit_eq l m) (is_in a l) (is_in b l)

pub negated_push : (a : Clause) (l : Lit) → with_lit (negated a) (negation l) ≡ negated (a ++ l ∷ [])
negated_push a l = fun_ext (λ m.
    or_comm (lit_eq m (negation l)) (is_in a (negation m))
    ∙ ap (λ b. is_in a (negation m) || b) (lit_eq_negation m l ∙ sym (or_false (lit_eq (negation m) l)))
    ∙ sym (is_in-append a (l ∷ []) (negation m)))

-- ---- literals of listed atoms, none with its negation

fails_at : (n : ℕ) (a b : Clause) (l : Lit) (t s : Bool) → is_listed n l ≡ t → is_in a (negation l) ≡ s → t && not s ≡ false → is_listed n l && not (is_in (a ++ b) (negation l)) ≡ false
fails_at n a b l false s is in_a e = and_left _ _ is
fails_at n a b l true true is in_a e = and_right (is_listed n l) _ (ap not (is_in-append a b (negation l) ∙ or_left (is_in a (negation l)) (is_in b (negation l)) in_a))
fails_at n a b l true false is in_a e = absurd (true≢false e)

-- a clause has a literal that is of no listed atom, or has its negation before it
clause_fails_at : (n : ℕ) (a b : Clause) (l : Lit) → is_listed n l && not (is_in a (negation l)) ≡ false → is_clause n (a ++ l ∷ b) ≡ false
clause_fails_at n a b l e =
    list_all-append (λ m. is_listed n m && not (is_in (a ++ l ∷ b) (negation m))) a (l ∷ b)
    ∙ and_right _ _ (and_left _ _ (fails_at n a (l ∷ b) l (is_listed n l) (is_in a (negation l)) refl refl e))

pub clause_fails : (n : ℕ) (known : LitSet) (c : Clause) (i : ℕ) (d : Lit) → i < length c → known ≡ negated (take i c) → is_listed n (get_or c i d) && not (known (get_or c i d)) ≡ false → is_clause n c ≡ false
clause_fails n known c i d h is e =
    let whole : take i c ++ get_or c i d ∷ drop (suc i) c ≡ c = ap (λ x. take i c ++ x) (sym (drop-cons c i d h)) ∙ take-append-drop i c in
    ap (is_clause n) (sym whole) ∙ clause_fails_at n (take i c) (drop (suc i) c) (get_or c i d) (ap (λ (k : LitSet). is_listed n (get_or c i d) && not (k (get_or c i d))) (sym is) ∙ e)

not_in : (a : Clause) (l m : Lit) → is_in a (negation l) ≡ false → is_in a m ≡ true → lit_eq (negation m) l ≡ false
not_in a l m e h = by (lit_eq (negation m) l) refl where
  by : (b : Bool) → lit_eq (negation m) l ≡ b → b ≡ false
  by true is =
      let same : m ≡ negation l = sym (negation_twice m) ∙ ap negation (lit_eq-true (negation m) l is) in
      absurd (true≢false (sym (subst (λ (x : Lit). is_in a x ≡ true) same h) ∙ e))
  by false is = refl

fit_more : (n : ℕ) (a : Clause) (l m : Lit) → is_in a (negation l) ≡ false → is_in a m ≡ true → is_listed n m && not (is_in a (negation m)) ≡ true
    → is_listed n m && not (is_in (a ++ l ∷ []) (negation m)) ≡ true
fit_more n a l m e h fit =
    ap (λ b. is_listed n m && not b) (is_in-append a (l ∷ []) (negation m) ∙ ap (λ b. is_in a (negation m) || (b || false)) (not_in a l m e h) ∙ or_false (is_in a (negation m)))
    ∙ fit

-- each literal of b, a part of a, still fits
fits_more : (n : ℕ) (a b : Clause) (l : Lit) → ((m : Lit) → is_in b m ≡ true → is_in a m ≡ true) → is_in a (negation l) ≡ false
    → list_all (λ m. is_listed n m && not (is_in a (negation m))) b ≡ true → list_all (λ m. is_listed n m && not (is_in (a ++ l ∷ []) (negation m))) b ≡ true
fits_more n a [] l part e fit = refl
fits_more n a (m ∷ b) l part e fit =
    let parts = and_parts (is_listed n m && not (is_in a (negation m))) (list_all (λ m. is_listed n m && not (is_in a (negation m))) b) fit in
    and_from _ _ (fit_more n a l m e (part m (or_left _ _ (lit_eq-itself m))) parts.0)
    (fits_more n a b l (λ k h. part k (or_right (lit_eq k m) (is_in b k) h)) e parts.1)

negation_differs : (l : Lit) → lit_eq (negation l) l ≡ false
negation_differs l = and_right _ _ (by l.negated) where
  by : (b : Bool) → bool_eq (not b) b ≡ false
  by true = refl
  by false = refl

clause_push : (n : ℕ) (a : Clause) (l : Lit) → is_clause n a ≡ true → is_listed n l ≡ true → is_in a (negation l) ≡ false → is_clause n (a ++ l ∷ []) ≡ true
clause_push n a l h listed e =
    let last : is_in (a ++ l ∷ []) (negation l) ≡ false = is_in-append a (l ∷ []) (negation l) ∙ ap (λ b. b || (lit_eq (negation l) l || false)) e ∙ ap (λ b. b || false) (negation_differs l) in
    list_all-append (λ m. is_listed n m && not (is_in (a ++ l ∷ []) (negation m))) a (l ∷ [])
    ∙ and_from _ _ (fits_more n a a l (λ m k. k) e h) (and_from _ _ (and_from _ _ listed (ap not last)) refl)

pub clause_more : (n : ℕ) (known : LitSet) (c : Clause) (i : ℕ) (d : Lit) → i < length c → known ≡ negated (take i c) → is_clause n (take i c) ≡ true → is_listed n (get_or c i d) && not (known (get_or c i d)) ≡ true
    → is_clause n (take (i + 1) c) ≡ true
clause_more n known c i d h is e free =
    let parts = and_parts (is_listed n (get_or c i d)) (not (negated (take i c) (get_or c i d))) (ap (λ (k : LitSet). is_listed n (get_or c i d) && not (k (get_or c i d))) (sym is) ∙ free) in
    ap (is_clause n) (take_more c i d h) ∙ clause_push n (take i c) (get_or c i d) e parts.0 (not-true (is_in (take i c) (negation (get_or c i d))) parts.1)

pub negated_more : (known next : LitSet) (c : Clause) (i : ℕ) (d : Lit) → i < length c → known ≡ negated (take i c) → next ≡ with_lit known (negation (get_or c i d)) → next ≡ negated (take (i + 1) c)
negated_more known next c i d h is e =
    e ∙ ap (λ (k : LitSet). with_lit k (negation (get_or c i d))) is ∙ negated_push (take i c) (get_or c i d) ∙ ap negated (sym (take_more c i d h))
