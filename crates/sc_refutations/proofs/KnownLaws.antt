-- The literals that marks make true.
use Rattle.std.proofs.Common.{◌≡◌, ◌≢◌, ◌+◌, ◌-◌, ◌*◌, ◌<◌, ◌≤◌, ◌==◌, ℕ, zero, suc, List, [], ◌∷◌, ◌++◌, set, get_or, length, Bool, true, false, cond, ◌||◌, nat_lt, nat_le, Some, None, slice_get, refl, sym, ap, ◌∙◌, arith}
use Rattle.std.specs.List.{list_all}
use Rattle.std.proofs.Math.Path.{fun_ext}
use Rattle.std.proofs.lemmas.Bool.{leb-true, le-leb, lt-ltb, ne_eqb, eq-eqb, and_parts, and_from, true≢false}
use Rattle.sc_clauses.specs.declared.lit.Lit.{Lit}
use Rattle.sc_clauses.specs.Clauses.{Clause, lit_eq, negation}
use Rattle.sc_clauses.proofs.LitLaws.{lit_eq-true, lit_eq-itself, negation_twice}
use Rattle.sc_refutations.specs.Arenas.{code_of, has_code}
use Rattle.sc_refutations.specs.Refutations.{with_lit, is_listed, are_listed, clause_at}
use Rattle.sc_refutations.specs.Known.{says, marked, is_stamped, have_marks}
use Rattle.sc_refutations.proofs.CodeLaws.{code_same}
use Rattle.sc_refutations.proofs.RefutationLaws.{listed_at}

slice_get-set_same : {X : Type 0} (xs : List X) (i : ℕ) (x : X) → i < length xs → slice_get (set xs i x) i ≡ Some x
slice_get-set_same [] i x h = absurd (omega arith)
slice_get-set_same (y ∷ xs) zero x h = refl
slice_get-set_same (y ∷ xs) (suc i) x h = slice_get-set_same xs i x (omega arith)

slice_get-set_other : {X : Type 0} (xs : List X) (i j : ℕ) (x : X) → i ≢ j → slice_get (set xs i x) j ≡ slice_get xs j
slice_get-set_other [] i j x h = refl
slice_get-set_other (y ∷ xs) zero zero x h = absurd (h refl)
slice_get-set_other (y ∷ xs) zero (suc j) x h = refl
slice_get-set_other (y ∷ xs) (suc i) zero x h = refl
slice_get-set_other (y ∷ xs) (suc i) (suc j) x h = slice_get-set_other xs i j x (λ e. h (ap suc e))

-- marks of earlier steps are of no later step
pub stamped_later : (old step : ℕ) (marks : List ℕ) → old ≤ step → is_stamped old marks ≡ true → is_stamped step marks ≡ true
stamped_later old step [] h e = refl
stamped_later old step (m ∷ marks) h e =
    let parts = and_parts (nat_le m old) (is_stamped old marks) e in
    let here : m ≤ old = leb-true m old parts.0 in
    and_from (nat_le m step) (is_stamped step marks) (le-leb m step (omega arith)) (stamped_later old step marks h parts.1)

says_none : (old step : ℕ) (marks : List ℕ) (i : ℕ) → old < step → is_stamped old marks ≡ true → says step (slice_get marks i) ≡ false
says_none old step [] i h e = refl
says_none old step (m ∷ marks) zero h e =
    let parts = and_parts (nat_le m old) (is_stamped old marks) e in
    let here : m ≤ old = leb-true m old parts.0 in
    let other : m ≡ step → ⊥ = λ (q : m ≡ step). absurd (omega arith) in
    ne_eqb m step other
says_none old step (m ∷ marks) (suc i) h e = says_none old step marks i h (and_parts (nat_le m old) (is_stamped old marks) e).1

-- nothing is known in a later step
pub marked_none : (old step : ℕ) (marks : List ℕ) → old < step → is_stamped old marks ≡ true → marked step marks ≡ (λ l. false)
marked_none old step marks h e = fun_ext (λ l. says_none old step marks (code_of (negation l)) h e)

pub stamped_set : (step : ℕ) (marks : List ℕ) (i : ℕ) → is_stamped step marks ≡ true → is_stamped step (set marks i step) ≡ true
stamped_set step [] i e = refl
stamped_set step (m ∷ marks) zero e = and_from (nat_le step step) (is_stamped step marks) (le-leb step step (omega arith)) (and_parts (nat_le m step) (is_stamped step marks) e).1
stamped_set step (m ∷ marks) (suc i) e =
    let parts = and_parts (nat_le m step) (is_stamped step marks) e in
    and_from (nat_le m step) (is_stamped step (set marks i step)) parts.0 (stamped_set step marks i parts.1)

pub stamped_push : (marks : List ℕ) → is_stamped 0 marks ≡ true → is_stamped 0 (marks ++ 0 ∷ []) ≡ true
stamped_push [] e = refl
stamped_push (m ∷ marks) e =
    let parts = and_parts (nat_le m 0) (is_stamped 0 marks) e in
    and_from (nat_le m 0) (is_stamped 0 (marks ++ 0 ∷ [])) parts.0 (stamped_push marks parts.1)

-- ---- the one mark that is written

same_lit : (a b : Lit) → code_of (negation a) ≡ code_of (negation b) → a ≡ b
same_lit a b e = sym (negation_twice a) ∙ (ap negation (code_same (negation a) (negation b) e) ∙ negation_twice b)

marked_set_at : (step : ℕ) (marks : List ℕ) (l m : Lit) (t : Bool) → lit_eq m l ≡ t → code_of (negation l) < length marks
    → says step (slice_get (set marks (code_of (negation l)) step) (code_of (negation m))) ≡ t || says step (slice_get marks (code_of (negation m)))
marked_set_at step marks l m true e h =
    let same : code_of (negation m) ≡ code_of (negation l) = ap (λ (x : Lit). code_of (negation x)) (lit_eq-true m l e) in
    ap (λ (i : ℕ). says step (slice_get (set marks (code_of (negation l)) step) i)) same
    ∙ ap (says step) (slice_get-set_same marks (code_of (negation l)) step h) ∙ eq-eqb step step refl
marked_set_at step marks l m false e h =
    let elsewhere : code_of (negation l) ≢ code_of (negation m)
    = λ (q : code_of (negation l) ≡ code_of (negation m)). true≢false (sym (ap (lit_eq m) (same_lit l m q) ∙ lit_eq-itself m) ∙ e) in
    ap (says step) (slice_get-set_other marks (code_of (negation l)) (code_of (negation m)) step elsewhere)

-- a mark adds its literal
pub marked_set : (step : ℕ) (marks : List ℕ) (l : Lit) (place : ℕ) → place ≡ code_of (negation l) → place < length marks → marked step (set marks place step) ≡ with_lit (marked step marks) l
marked_set step marks l place is h =
    let within : code_of (negation l) < length marks = omega (arith, is) in
    ap (λ (i : ℕ). marked step (set marks i step)) is ∙ fun_ext (λ m. marked_set_at step marks l m (lit_eq m l) refl within)

slice_get-there : (xs : List ℕ) (i d : ℕ) → i < length xs → slice_get xs i ≡ Some (get_or xs i d)
slice_get-there [] i d h = absurd (omega arith)
slice_get-there (x ∷ xs) zero d h = refl
slice_get-there (x ∷ xs) (suc i) d h = slice_get-there xs i d (omega arith)

pub says_at : (step : ℕ) (marks : List ℕ) (code d : ℕ) → code < length marks → (get_or marks code d == step) ≡ says step (slice_get marks code)
says_at step marks code d h = ap (says step) (sym (slice_get-there marks code d h))

-- ---- clauses whose literals have marks

code_below : (atom count n : ℕ) (b : Bool) → atom ≤ count → n ≡ count * 2 + 2 → code_of (record { atom = atom; negated = b }) < n
code_below atom count n true h e = omega (arith, e)
code_below atom count n false h e = omega (arith, e)

all_marked : (count n : ℕ) (c : Clause) → n ≡ count * 2 + 2 → list_all (is_listed count) c ≡ true → have_marks n c ≡ true
all_marked count n [] e h = refl
all_marked count n (l ∷ c) e h =
    let parts = and_parts (is_listed count l) (list_all (is_listed count) c) h in
    let most : l.atom ≤ count = leb-true l.atom count (and_parts (nat_lt 0 l.atom) (nat_le l.atom count) parts.0).1 in
    and_from (nat_lt (code_of l) n) (have_marks n c) (lt-ltb (code_of l) n (code_below l.atom count n l.negated most e)) (all_marked count n c e parts.1)

all_coded : (count : ℕ) (c : Clause) → list_all (is_listed count) c ≡ true → list_all has_code c ≡ true
all_coded count [] h = refl
all_coded count (l ∷ c) h =
    let parts = and_parts (is_listed count l) (list_all (is_listed count) c) h in
    and_from (has_code l) (list_all has_code c) (and_parts (has_code l) (nat_le l.atom count) parts.0).0 (all_coded count c parts.1)

coded_by : (count number : ℕ) (clauses : List Clause) (c : Clause) (b : Bool) → are_listed count clauses ≡ true → Some c ≡ cond b None (slice_get clauses (number - 1)) → list_all has_code c ≡ true
coded_by count number clauses c true a is = absurd cc
coded_by count number clauses c false a is = all_coded count c (listed_at count clauses (number - 1) c a (sym is))

pub clause_coded : (count number : ℕ) (clauses : List Clause) (c : Clause) → are_listed count clauses ≡ true → Some c ≡ clause_at clauses number → list_all has_code c ≡ true
clause_coded count number clauses c a is = coded_by count number clauses c (number == 0) a is

marked_by : (count n number : ℕ) (clauses : List Clause) (c : Clause) (b : Bool) → are_listed count clauses ≡ true → n ≡ count * 2 + 2 → Some c ≡ cond b None (slice_get clauses (number - 1))
    → have_marks n c ≡ true
marked_by count n number clauses c true a e is = absurd cc
marked_by count n number clauses c false a e is = all_marked count n c e (listed_at count clauses (number - 1) c a (sym is))

-- the clause of a number
pub clause_marked : (count n number : ℕ) (clauses : List Clause) (c : Clause) → are_listed count clauses ≡ true → n ≡ count * 2 + 2 → Some c ≡ clause_at clauses number → have_marks n c ≡ true
clause_marked count n number clauses c a e is = marked_by count n number clauses c (number == 0) a e is

-- what the mark at a literal's place says
pub marked_at : (step : ℕ) (marks : List ℕ) (l m : Lit) (place d : ℕ) → m ≡ negation l → place ≡ code_of m → place < length marks → (get_or marks place d == step) ≡ marked step marks l
marked_at step marks l m place d is at h =
    ap (says step) (sym (slice_get-there marks place d h)) ∙ ap (λ (i : ℕ). says step (slice_get marks i)) (at ∙ ap code_of is)
