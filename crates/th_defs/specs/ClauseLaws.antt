-- Laws of clauses and of the rows of truth tables, given what holds of their literals.
use Rattle.std.proofs.Common.{◌≡◌, ◌≢◌, ◌==◌, ℕ, zero, suc, List, [], ◌∷◌, ◌++◌, map, filter, length, Bool, true, false, not, cond, ◌&&◌, ◌||◌, ◌⊎◌, inl, inr, ⊎_elim, Option, Some, None, refl, sym, ap, subst, ◌∙◌, arith}
use Rattle.std.specs.Bool.{⊤}
use Rattle.std.specs.List.{AllByRecursion, Contains, list_all}
use Rattle.std.proofs.lemmas.Bool.{true≢false}
use Rattle.std.proofs.lemmas.List.Folds.{list_any_at}
use Rattle.std.proofs.lemmas.List.Elements.{All-from_recursion, All-contains}
use Rattle.sc_lists.proofs.ListLaws.{all_append, contains_split, contains_nothing}
use Rattle.sc_clauses.proofs.LitLaws.{bool_eq-itself, lit_eq-itself, holds_negation}
use Rattle.sc_clauses.specs.declared.lit.Lit.{Lit}
use Rattle.sc_clauses.specs.Clauses.{Clause, bool_eq, lit_eq, negation, is_in, holds, clause_holds}
use Rattle.sc_term_definitions.specs.declared.function.Function.{Function}
use Rattle.sc_term_definitions.specs.declared.function.Shape.{Shape}
use Rattle.sc_term_definitions.specs.declared.function.Shape.TheVariants.{Table, All, NotAll, Fixed, Free}
use Rattle.sc_term_definitions.specs.Functions.{value_of, rows}
use Rattle.sc_term_definitions.specs.Truths.{defined}
use Rattle.sc_term_definitions.specs.Truths as truths
use Rattle.sc_footprint.specs.Definitions.{is_tautology, kept, differs, has_value, differ_all, row, table, conjunction, turned, clauses_by}
use Rattle.sc_footprint.specs.Theories.{IsListed}

-- ---- truth

eq_true : (p : Bool) → bool_eq p true ≡ p
eq_true true = refl
eq_true false = refl

not_eq_false : (p : Bool) → p ≡ not (bool_eq p false)
not_eq_false true = refl
not_eq_false false = refl

differs_holds : (v : ℕ → Bool) (l : Lit) (p u : Bool) → holds v l ≡ p → holds v (differs l u) ≡ not (bool_eq p u)
differs_holds v l p true e = holds_negation v l ∙ ap not (e ∙ sym (eq_true p))
differs_holds v l p false e = e ∙ not_eq_false p

eq_false : (p : Bool) → not p ≡ bool_eq p false
eq_false true = refl
eq_false false = refl

value_holds : (v : ℕ → Bool) (l : Lit) (p u : Bool) → holds v l ≡ p → holds v (has_value l u) ≡ bool_eq p u
value_holds v l p true e = e ∙ sym (eq_true p)
value_holds v l p false e = holds_negation v l ∙ ap not e ∙ eq_false p

any_left : (v : ℕ → Bool) (c d : Clause) → clause_holds v c ≡ true → clause_holds v (c ++ d) ≡ true
any_left v [] d h = absurd (true≢false (sym h))
any_left v (l ∷ c) d h = by (holds v l) h (any_left v c d)
  where
    by : (b : Bool) → (b || clause_holds v c) ≡ true → (clause_holds v c ≡ true → clause_holds v (c ++ d) ≡ true)
        → (b || clause_holds v (c ++ d)) ≡ true
    by true e f = refl
    by false e f = f e

any_right : (v : ℕ → Bool) (c d : Clause) → clause_holds v d ≡ true → clause_holds v (c ++ d) ≡ true
any_right v [] d h = h
any_right v (l ∷ c) d h = by (holds v l) (any_right v c d h)
  where
    by : (b : Bool) → clause_holds v (c ++ d) ≡ true → (b || clause_holds v (c ++ d)) ≡ true
    by true e = refl
    by false e = e

pub unit_true : (v : ℕ → Bool) (l : Lit) → holds v l ≡ true → clause_holds v (l ∷ []) ≡ true
unit_true v l e = ap (λ (b : Bool). b || false) e

same_or_not : (p u : Bool) → (bool_eq p u ≡ false) ⊎ (p ≡ u)
same_or_not true true = inr refl
same_or_not true false = inl refl
same_or_not false true = inl refl
same_or_not false false = inr refl

-- of a row either some input differs, or the row is that of the inputs' own values
some_differs : (v : ℕ → Bool) (ls : List Lit) (vs : List Bool) → length vs ≡ length ls
    → (clause_holds v (differ_all ls vs) ≡ true) ⊎ (map (holds v) ls ≡ vs)
some_differs v [] [] h = inr refl
some_differs v [] (u ∷ us) h = absurd (omega (arith, h))
some_differs v (l ∷ ls) [] h = absurd (omega (arith, h))
some_differs v (l ∷ ls) (u ∷ us) h =
    ⊎_elim (λ e. inl (ap (λ (b : Bool). b || clause_holds v (differ_all ls us))
    (differs_holds v l (holds v l) u refl ∙ ap not e)))
    (λ e. ⊎_elim (λ k. inl (any_right v (differs l u ∷ []) (differ_all ls us) k))
    (λ k. inr (ap (λ (b : Bool). b ∷ map (holds v) ls) e ∙ ap (λ (l : List Bool). u ∷ l) k))
    (some_differs v ls us (omega (arith, h))))
    (same_or_not (holds v l) u)

row_true : (v : ℕ → Bool) (f : Function) (x : Lit) (ls : List Lit) (vs : List Bool) → length vs ≡ length ls
    → holds v x ≡ value_of f (map (holds v) ls) → clause_holds v (row f x ls vs) ≡ true
row_true v f x ls vs h e =
    ⊎_elim (any_left v (differ_all ls vs) (has_value x (value_of f vs) ∷ []))
    (λ k. any_right v (differ_all ls vs) (has_value x (value_of f vs) ∷ []) (unit_true v (has_value x (value_of f vs))
    (value_holds v x (value_of f (map (holds v) ls)) (value_of f vs) e
    ∙ ap (λ (us : List Bool). bool_eq (value_of f us) (value_of f vs)) k ∙ bool_eq-itself (value_of f vs))))
    (some_differs v ls vs h)

-- each row has a value for each input
put_first : (b : Bool) (n : ℕ) (rs : List (List Bool)) → AllByRecursion (λ vs. length vs ≡ n) rs
    → AllByRecursion (λ vs. length vs ≡ suc n) (map (λ (us : List Bool). b ∷ us) rs)
put_first b n [] h = tt
put_first b n (r ∷ rs) h = (ap suc h.0, put_first b n rs h.1)

pub rows_long : (n : ℕ) → AllByRecursion (λ vs. length vs ≡ n) (rows n)
unfolding rows
rows_long zero = (refl, tt)
rows_long (suc n) =
    all_append (λ vs. length vs ≡ suc n) (map (λ (us : List Bool). false ∷ us) (rows n))
    (map (λ (us : List Bool). true ∷ us) (rows n))
    (put_first false n (rows n) (rows_long n)) (put_first true n (rows n) (rows_long n))

abbrev pub AreTrue : (ℕ → Bool) → List Clause → Type 0
AreTrue v = AllByRecursion (λ c. clause_holds v c ≡ true)

rows_true : (v : ℕ → Bool) (f : Function) (x : Lit) (ls : List Lit) (rs : List (List Bool))
    → AllByRecursion (λ vs. length vs ≡ length ls) rs → holds v x ≡ value_of f (map (holds v) ls)
    → AreTrue v (map (row f x ls) rs)
rows_true v f x ls [] h e = tt
rows_true v f x ls (r ∷ rs) h e = (row_true v f x ls r h.0 e, rows_true v f x ls rs h.1 e)

-- the rows of a truth table are true where the whole has the value of its inputs
table_true : (v : ℕ → Bool) (f : Function) (x : Lit) (ls : List Lit) → holds v x ≡ value_of f (map (holds v) ls)
    → AreTrue v (table f x ls)
table_true v f x ls e = rows_true v f x ls (rows (length ls)) (rows_long (length ls)) e

-- ---- all of some

-- if all are true each is; if not, the negation of one is
each_if : (v : ℕ → Bool) (x : Lit) (b : Bool) (ls : List Lit) → holds v x ≡ b
    → (b ≡ true → AllByRecursion (λ l. holds v l ≡ true) ls) → AreTrue v (map (λ (l : Lit). negation x ∷ l ∷ []) ls)
each_if v x b [] e h = tt
each_if v x true (l ∷ ls) e h =
    (any_right v (negation x ∷ []) (l ∷ []) (unit_true v l (h refl).0), each_if v x true ls e (λ k. (h k).1))
each_if v x false (l ∷ ls) e h = (
  any_left v (negation x ∷ []) (l ∷ [])
      (unit_true v (negation x) (holds_negation v x ∙ ap not e)),
  each_if v x false ls e
      (λ k. absurd (true≢false (sym k))),
)

all_true : (v : ℕ → Bool) (ls : List Lit) → list_all (λ u. u) (map (holds v) ls) ≡ true
    → AllByRecursion (λ l. holds v l ≡ true) ls
all_true v [] h = tt
all_true v (l ∷ ls) h = by (holds v l) refl h (all_true v ls)
  where
    by : (b : Bool) → holds v l ≡ b → (b && list_all (λ u. u) (map (holds v) ls)) ≡ true
        → (list_all (λ u. u) (map (holds v) ls) ≡ true → AllByRecursion (λ m. holds v m ≡ true) ls)
        → AllByRecursion (λ m. holds v m ≡ true) (l ∷ ls)
    by true e k rest = (e, rest k)
    by false e k rest = absurd (true≢false (sym k))

some_false : (v : ℕ → Bool) (ls : List Lit) → list_all (λ u. u) (map (holds v) ls) ≡ false
    → clause_holds v (map negation ls) ≡ true
some_false v [] h = absurd (true≢false h)
some_false v (l ∷ ls) h = by (holds v l) refl h (some_false v ls)
  where
    by : (b : Bool) → holds v l ≡ b → (b && list_all (λ u. u) (map (holds v) ls)) ≡ false
        → (list_all (λ u. u) (map (holds v) ls) ≡ false → clause_holds v (map negation ls) ≡ true)
        → clause_holds v (map negation (l ∷ ls)) ≡ true
    by true e k f = any_right v (negation l ∷ []) (map negation ls) (f k)
    by false e k f = any_left v (negation l ∷ []) (map negation ls)
        (unit_true v (negation l) (holds_negation v l ∙ ap not e))

last_true : (v : ℕ → Bool) (x : Lit) (ls : List Lit) (b : Bool) → holds v x ≡ b
    → (b ≡ false → clause_holds v (map negation ls) ≡ true) → clause_holds v (x ∷ map negation ls) ≡ true
last_true v x ls true e h = any_left v (x ∷ []) (map negation ls) (unit_true v x e)
last_true v x ls false e h = any_right v (x ∷ []) (map negation ls) (h refl)

conjunction_true : (v : ℕ → Bool) (x : Lit) (ls : List Lit) → holds v x ≡ list_all (λ u. u) (map (holds v) ls)
    → AreTrue v (conjunction x ls)
conjunction_true v x ls e =
    all_append (λ c. clause_holds v c ≡ true) (map (λ (l : Lit). negation x ∷ l ∷ []) ls) ((x ∷ map negation ls) ∷ [])
    (each_if v x (list_all (λ u. u) (map (holds v) ls)) ls e (all_true v ls))
    (last_true v x ls (list_all (λ u. u) (map (holds v) ls)) e (some_false v ls), tt)

-- ---- all shapes

turned_truths : (v : ℕ → Bool) (t : Bool) (ls : List Lit)
    → map (holds v) (turned t ls) ≡ truths.turned t (map (holds v) ls)
turned_truths v true [] = refl
turned_truths v true (k ∷ []) = refl
turned_truths v true (k ∷ l ∷ ls) = ap (λ (b : Bool). holds v k ∷ b ∷ map (holds v) ls) (holds_negation v l)
turned_truths v false ls = refl

abbrev pub IsAs : (ℕ → Bool) → Lit → Option Bool → Type 0
IsAs v x None = ⊤
IsAs v x (Some b) = holds v x ≡ b

not_not : (a b : Bool) → a ≡ not b → not a ≡ b
not_not a true e = ap not e
not_not a false e = ap not e

-- the clauses of a definition are true where what it defines has the value that it makes of its inputs
pub clauses_true : (v : ℕ → Bool) (shape : Shape) (x : Lit) (ls : List Lit)
    → IsAs v x (defined shape (map (holds v) ls)) → AreTrue v (clauses_by shape x ls)
clauses_true v (Table f t) x ls e = table_true v f x (turned t ls) (e ∙ ap (value_of f) (sym (turned_truths v t ls)))
clauses_true v All x ls e = conjunction_true v x ls e
clauses_true v NotAll x ls e =
    conjunction_true v (negation x) ls
    (holds_negation v x ∙ not_not (holds v x) (list_all (λ u. u) (map (holds v) ls)) e)
clauses_true v (Fixed b) x ls e = (unit_true v (has_value x b) (value_holds v x b b e ∙ bool_eq-itself b), tt)
clauses_true v Free x ls e = tt

filtered_at : {X : Type 0} (P : X → Type 0) (x : X) (ys : List X) (b : Bool) → (b ≡ true → P x) → AllByRecursion P ys
    → AllByRecursion P (cond b (x ∷ ys) ys)
filtered_at P x ys true h rest = (h refl, rest)
filtered_at P x ys false h rest = rest

-- what passes a test has what follows from it
pub filtered : {X : Type 0} (test : X → Bool) (P : X → Type 0) (xs : List X)
    → AllByRecursion (λ x. test x ≡ true → P x) xs → AllByRecursion P (filter test xs)
filtered test P [] h = tt
filtered test P (x ∷ xs) h = filtered_at P x (filter test xs) (test x) h.0 (filtered test P xs h.1)

whenever : (P : Clause → Type 0) (test : Clause → Bool) (cs : List Clause) → AllByRecursion P cs
    → AllByRecursion (λ c. test c ≡ true → P c) cs
whenever P test [] h = tt
whenever P test (c ∷ cs) h = (λ e. h.0, whenever P test cs h.1)

pub kept_true : (v : ℕ → Bool) (cs : List Clause) → AreTrue v cs → AreTrue v (kept cs)
kept_true v cs h = filtered (λ (c : Clause). not (is_tautology c)) (λ c. clause_holds v c ≡ true) cs
    (whenever (λ c. clause_holds v c ≡ true) (λ (c : Clause). not (is_tautology c)) cs h)

-- ---- form

never_not : (b : Bool) → b ≡ not b → ⊥
never_not true e = true≢false e
never_not false e = true≢false (sym e)

-- literals of the first atoms, none of them with its negation
abbrev pub IsLawful : ℕ → Clause → Type 0
IsLawful count c = (l : Lit) → Contains c l → IsListed count l × ¬ Contains c (negation l)

in_from_contains : (c : Clause) (l : Lit) → Contains c l → is_in c l ≡ true
in_from_contains c l h = list_any_at (lit_eq l) c h.0 l h.1 (ap (lit_eq l) h.2 ∙ lit_eq-itself l)

-- a clause that is no tautology holds no literal with its negation
pub lawful_from : (count : ℕ) (c : Clause) → AllByRecursion (IsListed count) c → is_tautology c ≡ false
    → IsLawful count c
lawful_from count c listed plain l h = (
  All-contains (IsListed count) c l (All-from_recursion (IsListed count) c listed) h,
  λ other. true≢false (sym (list_any_at (λ (m : Lit). is_in c (negation m)) c h.0 l h.1
      (ap (λ (m : Lit). is_in c (negation m)) h.2 ∙ in_from_contains c (negation l) other)) ∙ plain),
)

differs_listed : (count : ℕ) (l : Lit) (u : Bool) → IsListed count l → IsListed count (differs l u)
differs_listed count l true h = h
differs_listed count l false h = h

value_listed : (count : ℕ) (l : Lit) (u : Bool) → IsListed count l → IsListed count (has_value l u)
value_listed count l true h = h
value_listed count l false h = h

not_is : (b : Bool) → not b ≡ true → b ≡ false
not_is true e = sym e
not_is false e = refl

abbrev pub AreListed : ℕ → List Lit → Type 0
AreListed count = AllByRecursion (IsListed count)

differ_all_listed : (count : ℕ) (ls : List Lit) (vs : List Bool) → AreListed count ls
    → AreListed count (differ_all ls vs)
differ_all_listed count [] vs h = tt
differ_all_listed count (l ∷ ls) [] h = tt
differ_all_listed count (l ∷ ls) (u ∷ us) h = (differs_listed count l u h.0, differ_all_listed count ls us h.1)

rows_listed : (count : ℕ) (f : Function) (x : Lit) (ls : List Lit) (rs : List (List Bool)) → IsListed count x
    → AreListed count ls → AllByRecursion (AreListed count) (map (row f x ls) rs)
rows_listed count f x ls [] h k = tt
rows_listed count f x ls (r ∷ rs) h k = (
  all_append (IsListed count) (differ_all ls r) (has_value x (value_of f r) ∷ []) (differ_all_listed count ls r k)
      (value_listed count x (value_of f r) h, tt),
  rows_listed count f x ls rs h k,
)

each_listed : (count : ℕ) (x : Lit) (ls : List Lit) → IsListed count x → AreListed count ls
    → AllByRecursion (AreListed count) (map (λ (l : Lit). negation x ∷ l ∷ []) ls)
each_listed count x [] h k = tt
each_listed count x (l ∷ ls) h k = ((h, (k.0, tt)), each_listed count x ls h k.1)

negated_listed : (count : ℕ) (ls : List Lit) → AreListed count ls → AreListed count (map negation ls)
negated_listed count [] k = tt
negated_listed count (l ∷ ls) k = (k.0, negated_listed count ls k.1)

turned_listed : (count : ℕ) (t : Bool) (ls : List Lit) → AreListed count ls → AreListed count (turned t ls)
turned_listed count true [] k = k
turned_listed count true (l ∷ []) k = k
turned_listed count true (l ∷ m ∷ ls) k = k
turned_listed count false ls k = k

conjunction_listed : (count : ℕ) (x : Lit) (ls : List Lit) → IsListed count x → AreListed count ls
    → AllByRecursion (AreListed count) (conjunction x ls)
conjunction_listed count x ls h k =
    all_append (AreListed count) (map (λ (l : Lit). negation x ∷ l ∷ []) ls) ((x ∷ map negation ls) ∷ [])
    (each_listed count x ls h k) ((h, negated_listed count ls k), tt)

pub clauses_listed : (count : ℕ) (shape : Shape) (x : Lit) (ls : List Lit) → IsListed count x → AreListed count ls
    → AllByRecursion (AreListed count) (clauses_by shape x ls)
clauses_listed count (Table f t) x ls h k =
    rows_listed count f x (turned t ls) (rows (length (turned t ls))) h (turned_listed count t ls k)
clauses_listed count All x ls h k = conjunction_listed count x ls h k
clauses_listed count NotAll x ls h k = conjunction_listed count (negation x) ls h k
clauses_listed count (Fixed b) x ls h k = ((value_listed count x b h, tt), tt)
clauses_listed count Free x ls h k = tt

lawful_whenever : (count : ℕ) (cs : List Clause) → AllByRecursion (AreListed count) cs
    → AllByRecursion (λ c. not (is_tautology c) ≡ true → IsLawful count c) cs
lawful_whenever count [] h = tt
lawful_whenever count (c ∷ cs) h =
    (λ e. lawful_from count c h.0 (not_is (is_tautology c) e), lawful_whenever count cs h.1)

pub kept_lawful : (count : ℕ) (cs : List Clause) → AllByRecursion (AreListed count) cs
    → AllByRecursion (IsLawful count) (kept cs)
kept_lawful count cs h = filtered (λ (c : Clause). not (is_tautology c)) (IsLawful count) cs
    (lawful_whenever count cs h)

other_sign : (a b : Bool) → (a && bool_eq (not b) b || false) || false ≡ false
other_sign true true = refl
other_sign true false = refl
other_sign false b = refl

pub unit_lawful : (count : ℕ) (l : Lit) → IsListed count l → IsLawful count (l ∷ [])
unit_lawful count l h = lawful_from count (l ∷ []) (h, tt) (other_sign (l.atom == l.atom) l.negated)

-- two literals of different atoms
pub pair_lawful : (count : ℕ) (l m : Lit) → IsListed count l → IsListed count m → l.atom ≢ m.atom
    → IsLawful count (l ∷ m ∷ [])
pair_lawful count l m h k apart x there = by (contains_split l (m ∷ []) x there)
  where
    flipped : (y : Lit) → y ≡ negation y → ⊥
    flipped y e = never_not y.negated (ap (λ (z : Lit). z.negated) e)

    none : (y : Lit) → Contains (m ∷ []) y → m ≡ y
    none y e = ⊎_elim (λ f. f) (λ f. absurd (contains_nothing y f)) (contains_split m [] y e)

    first : Contains (l ∷ m ∷ []) (negation l) → ⊥
    first e = ⊎_elim (λ f. flipped l f) (λ f. apart (sym (ap (λ (z : Lit). z.atom) (none (negation l) f))))
        (contains_split l (m ∷ []) (negation l) e)

    second : Contains (l ∷ m ∷ []) (negation m) → ⊥
    second e = ⊎_elim (λ f. apart (ap (λ (z : Lit). z.atom) f)) (λ f. flipped m (none (negation m) f))
        (contains_split l (m ∷ []) (negation m) e)

    by : (l ≡ x) ⊎ Contains (m ∷ []) x → IsListed count x × ¬ Contains (l ∷ m ∷ []) (negation x)
    by (inl e) = (subst (IsListed count) e h, subst (λ (y : Lit). ¬ Contains (l ∷ m ∷ []) (negation y)) e first)
    by (inr e) = let f = none x e in (
      subst (IsListed count) f k,
      subst
          (λ (y : Lit). ¬ Contains (l ∷ m ∷ []) (negation y)) f second,
    )
