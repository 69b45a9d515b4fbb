-- Stamps that say which numbers are marked.
use Rattle.std.proofs.Common.{◌≡◌, ℕ, zero, suc, ◌+◌, ◌<◌, ◌≤◌, List, [], ◌∷◌, Bool, true, false, length, map, replicate, get_or, refl, sym, ap, ◌∙◌, subst, arith}
use Rattle.std.proofs.ByRecursion.{All-set}
use Rattle.std.proofs.lemmas.Bool.{eq-eqb, ne_eqb}
use Rattle.std.proofs.lemmas.List.{length-map, map-set, get_or-map}
use Rattle.std.proofs.Math.ListN.{set}
use Rattle.std.specs.List.{AllByRecursion}
use Rattle.sc_propagation.specs.Stamps.{is_marked}

-- no stamp is later than the present one
abbrev pub AreNoLater : ℕ → List ℕ → Type 0
AreNoLater present stamps = AllByRecursion (λ s. s ≤ present) stamps

-- ---- where nothing was marked

unmarked : (count : ℕ) → map (is_marked 1) (replicate count 0) ≡ replicate count false
unmarked zero = refl
unmarked (suc count) = ap (λ (l : List Bool). false ∷ l) (unmarked count)

no-later : (count : ℕ) → AreNoLater 1 (replicate count 0)
no-later zero = tt
no-later (suc count) = (omega arith, no-later count)

pub none_marked : (stamps : List ℕ) (count : ℕ) → stamps ≡ replicate count 0 → map (is_marked 1) stamps ≡ replicate count false
none_marked stamps count e = ap (λ (l : List ℕ). map (is_marked 1) l) e ∙ unmarked count

pub first-no_later : (stamps : List ℕ) (count : ℕ) → stamps ≡ replicate count 0 → AreNoLater 1 stamps
first-no_later stamps count e = subst (λ (l : List ℕ). AreNoLater 1 l) (sym e) (no-later count)

-- ---- one mark

pub mark_at : (present : ℕ) (stamps : List ℕ) (i d : ℕ) (e : Bool) → i < length stamps → is_marked present (get_or stamps i d) ≡ get_or (map (is_marked present) stamps) i e
mark_at present stamps i d e lt = sym (get_or-map (is_marked present) stamps i d e lt)

pub mark_more : (present : ℕ) (stamps : List ℕ) (i : ℕ) → map (is_marked present) (set stamps i present) ≡ set (map (is_marked present) stamps) i true
mark_more present stamps i =
    map-set (is_marked present) stamps i present ∙ ap (λ (b : Bool). set (map (is_marked present) stamps) i b) (eq-eqb present present refl)

pub set-no_later : (present : ℕ) (stamps : List ℕ) (i : ℕ) → AreNoLater present stamps → AreNoLater present (set stamps i present)
set-no_later present stamps i h = All-set (λ s. s ≤ present) stamps i present (omega arith) h

-- ---- the next stamp

next-unmarked : (present : ℕ) (stamps : List ℕ) → AreNoLater present stamps → map (is_marked (present + 1)) stamps ≡ replicate (length stamps) false
next-unmarked present [] h = refl
next-unmarked present (s ∷ stamps) h =
    let le : s ≤ present = h.0 in
    ap (λ (b : Bool). b ∷ map (is_marked (present + 1)) stamps) (ne_eqb s (present + 1) (λ e. omega arith)) ∙ ap (λ (l : List Bool). false ∷ l) (next-unmarked present stamps h.1)

next-no_later : (present : ℕ) (stamps : List ℕ) → AreNoLater present stamps → AreNoLater (present + 1) stamps
next-no_later present [] h = tt
next-no_later present (s ∷ stamps) h = (let le : s ≤ present = h.0 in omega arith, next-no_later present stamps h.1)

count : (present : ℕ) (stamps : List ℕ) (old : List Bool) → map (is_marked present) stamps ≡ old → length stamps ≡ length old
count present stamps old e = (let k : length (map (is_marked present) stamps) ≡ length stamps = simp length-map in sym k) ∙ ap length e

pub next-marks : (present next : ℕ) (stamps : List ℕ) (old : List Bool) → next ≡ present + 1 → AreNoLater present stamps → map (is_marked present) stamps ≡ old
    → map (is_marked next) stamps ≡ replicate (length old) false
next-marks present next stamps old e h is =
    ap (λ (k : ℕ). map (is_marked k) stamps) e ∙ next-unmarked present stamps h ∙ ap (λ (k : ℕ). replicate k false) (count present stamps old is)

pub next-late : (present next : ℕ) (stamps : List ℕ) → next ≡ present + 1 → AreNoLater present stamps → AreNoLater next stamps
next-late present next stamps e h = subst (λ (k : ℕ). AreNoLater k stamps) (sym e) (next-no_later present stamps h)

-- ---- from the first stamp on again

pub again-marks : (present size : ℕ) (stamps new : List ℕ) (old : List Bool) → size ≡ length stamps → new ≡ replicate size 0 → map (is_marked present) stamps ≡ old
    → map (is_marked 1) new ≡ replicate (length old) false
again-marks present size stamps new old sized e is = none_marked new size e ∙ ap (λ (k : ℕ). replicate k false) (sized ∙ count present stamps old is)
