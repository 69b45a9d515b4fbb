-- A change of watched literals keeps clauses listed and alive.
use Rattle.std.proofs.Common.{◌≡◌, ◌≢◌, ◌⊎◌, inl, inr, ⊎_elim, ℕ, ◌+◌, ◌<◌, ◌≤◌, List, [], ◌∷◌, ◌++◌, Bool, length, get_or, refl, sym, ap, ◌∙◌, subst, arith, Option, Some, None, Vec, Global}
use Rattle.std.specs.List.{Contains}
use Rattle.std.proofs.Math.ListN.{length-set, get_or-append}
use Rattle.std.proofs.Math.Seq.{get_or-append_seam}
use Rattle.std.proofs.lemmas.Bool.{cases_eq, cases_lt}
use Rattle.std.proofs.lemmas.List.{length-append, get_or_default}
use Rattle.sc_lists.proofs.ListLaws.{contains_nothing}
use Rattle.sc_clauses.specs.Clauses.{Clause}
use Rattle.sc_clauses.specs.declared.lit.Lit.{Lit}
use Rattle.sc_propagation.proofs.ReadingLaws.{free-before}
use Rattle.sc_propagation.specs.Readings.{AreTwoOpen}
use Rattle.sc_propagation.specs.Steps.{At}
use Rattle.sc_propagation.specs.Trails.{AreInCells, AreQuiet, IsQuiet, true_before}
use Rattle.sc_propagation.specs.Watching.{AreAliveBy, AreListedBy, AreOpen, IsAlive, IsWatching}
use Rattle.sc_propagation.specs.declared.cell.Cell.{Cell}
use Rattle.sc_propagation.proofs.WatchedLitLaws.{lit-cases}
use Rattle.sc_propagation.proofs.RemovedLaws.{removed-has, removed-only}
use Rattle.sc_propagation.proofs.WatchLaws.{longer-below, longer-beyond, set-watch-here, set-watch-other}
use Rattle.sc_propagation.specs.Lists.{places_of}
use Rattle.sc_propagation.specs.Watches.{AreUnset, IsAdded, IsRewatched, IsSifted, IsWatched, watch_in, watch_of}
use Rattle.sc_propagation.specs.declared.lists.Lists.{Lists}
use Rattle.sc_propagation.specs.declared.watches.Watch.{Watch}
use Rattle.sc_propagation.specs.declared.watches.Watches.{Watches}

-- ---- the watched literals of a clause

pub same-clause : (cs : List Clause) (i : ℕ) (c d : Clause) → At cs i c → At cs i d → c ≡ d
same-clause cs i c d (lt, e) (lt', f) = sym e ∙ get_or_default cs i c d lt ∙ f

module _ (n : ℕ) (cs : List Clause) (pairs : List (Option Watch)) (o : Lists) (new : Watches) (place : ℕ) (watch : Watch) (c : Clause)
    (h : AreListedBy n cs pairs o) (k : IsRewatched place watch pairs o new) (at : At cs place c) (has_first : Contains c watch.first) (has_second : Contains c watch.second) where
  in-pairs : place < length pairs
  in-pairs = let e = h.paired in let lt : place < length cs = at.0 in omega arith

  pub rewatched-here : watch_of new place ≡ Some watch
  rewatched-here = set-watch-here pairs new.pairs.items place watch in-pairs k.pairs_set

  pub rewatched-other : (i : ℕ) → i ≢ place → watch_of new i ≡ watch_in pairs i
  rewatched-other i ne = set-watch-other pairs new.pairs.items place i watch ne k.pairs_set

  -- they are the clause's own
  own : (l : Lit) → IsWatched (Some watch) l → Contains c l
  own l (inl e) = subst (λ (m : Lit). Contains c m) (sym e) has_first
  own l (inr e) = subst (λ (m : Lit). Contains c m) (sym e) has_second

  pub rewatched-listed : IsWatching n cs new
  rewatched-listed = record {
    sized = λ s. k.sizes s ∙ h.sized s;
    paired = ap length k.pairs_set ∙ length-set pairs place (Some watch) ∙ h.paired;
    listed = λ i l w.
        ⊎_elim
        (λ (e : i ≡ place).
        let now : IsWatched (Some watch) l = subst (λ (p : Option Watch). IsWatched p l) rewatched-here (subst (λ (j : ℕ). IsWatched (watch_of new j) l) e w) in
        subst (λ (j : ℕ). Contains (places_of new.lists l) j) (sym e)
        (⊎_elim
        (λ (has : Contains (places_of new.lists l) place). has)
        (λ (old : IsWatched (watch_in pairs place) l). k.kept l place (h.listed place l old))
        (k.added l now)))
        (λ (ne : i ≢ place). k.kept l i (h.listed i l (subst (λ (p : Option Watch). IsWatched p l) (rewatched-other i ne) w)))
        (cases_eq i place);
    within = λ l i has.
        ⊎_elim
        (λ (old : Contains (places_of o l) i). h.within l i old)
        (λ (e : i ≡ place). subst (λ (j : ℕ). j < length cs) (sym e) at.0)
        (k.only l i has);
    members = λ i d l there w.
        ⊎_elim
        (λ (e : i ≡ place).
        let now : IsWatched (Some watch) l = subst (λ (p : Option Watch). IsWatched p l) rewatched-here (subst (λ (j : ℕ). IsWatched (watch_of new j) l) e w) in
        subst (λ (x : Clause). Contains x l) (same-clause cs place c d at (subst (λ (j : ℕ). At cs j d) e there)) (own l now))
        (λ (ne : i ≢ place). h.members i d l there (subst (λ (p : Option Watch). IsWatched p l) (rewatched-other i ne) w))
        (cases_eq i place);
  }

-- ---- one more clause

at-last : (cs : List Clause) (C : Clause) (i : ℕ) → i ≡ length cs → At (cs ++ C ∷ []) i C
at-last cs C i e = subst (λ (j : ℕ). At (cs ++ C ∷ []) j C) (sym e) (let k : length (cs ++ C ∷ []) ≡ length cs + 1 = length-append cs (C ∷ []) in omega arith, get_or-append_seam cs C [] C)

-- a place of the longer list is one of the shorter, or the last
pub at-cases : (cs : List Clause) (C : Clause) (i : ℕ) (c : Clause) → At (cs ++ C ∷ []) i c → At cs i c ⊎ ((i ≡ length cs) × (c ≡ C))
at-cases cs C i c (lt, is) =
    let len : length (cs ++ C ∷ []) ≡ length cs + 1 = length-append cs (C ∷ []) in
    ⊎_elim
    (λ (less : i < length cs). inl (less, sym (get_or-append cs (C ∷ []) c i less) ∙ is))
    (λ (le : length cs ≤ i).
    let last : i ≡ length cs = omega arith in
    inr (last, sym is ∙ subst (λ (j : ℕ). get_or (cs ++ C ∷ []) j c ≡ C) (sym last) (get_or-append_seam cs C [] c)))
    (cases_lt i (length cs))

longer-listed : (n : ℕ) (cs : List Clause) (C : Clause) (pairs : List (Option Watch)) (o : Lists) → AreListedBy n cs pairs o → AreListedBy n (cs ++ C ∷ []) (pairs ++ None ∷ []) o
longer-listed n cs C pairs o h =
    let len : length (cs ++ C ∷ []) ≡ length cs + 1 = length-append cs (C ∷ []) in
    let more : length (pairs ++ None ∷ []) ≡ length pairs + 1 = length-append pairs (None ∷ []) in
    let same = h.paired in
    record {
      sized = h.sized;
      paired = omega arith;
      listed = λ i l w.
          ⊎_elim
          (λ (lt : i < length pairs). h.listed i l (subst (λ (p : Option Watch). IsWatched p l) (longer-below pairs i lt) w))
          (λ (le : length pairs ≤ i). absurd (subst (λ (p : Option Watch). IsWatched p l) (longer-beyond pairs i le) w))
          (cases_lt i (length pairs));
      within = λ l i has. let lt = h.within l i has in omega arith;
      members = λ i c l at w.
          ⊎_elim
          (λ (lt : i < length pairs).
          ⊎_elim
          (λ (old : At cs i c). h.members i c l old (subst (λ (p : Option Watch). IsWatched p l) (longer-below pairs i lt) w))
          (λ (last : (i ≡ length cs) × (c ≡ C)). let e = last.0 in absurd (omega arith))
          (at-cases cs C i c at))
          (λ (le : length pairs ≤ i). absurd (subst (λ (p : Option Watch). IsWatched p l) (longer-beyond pairs i le) w))
          (cases_lt i (length pairs));
    }

pub added-listed : (n : ℕ) (cs : List Clause) (C : Clause) (pair : Option Watch) (old new : Watches) → IsWatching n cs old → IsAdded pair old new → ((l : Lit) → IsWatched pair l → Contains C l) → IsWatching n (cs ++ C ∷ []) new
added-listed n cs C None old new h k own =
    subst (λ (o : Lists). AreListedBy n (cs ++ C ∷ []) new.pairs.items o) (sym k.1)
    (subst (λ (ps : List (Option Watch)). AreListedBy n (cs ++ C ∷ []) ps old.lists) (sym k.0) (longer-listed n cs C old.pairs.items old.lists h))
added-listed n cs C (Some watch) old new h k own =
    rewatched-listed n (cs ++ C ∷ []) (old.pairs.items ++ None ∷ []) old.lists new (length old.pairs.items) watch C (longer-listed n cs C old.pairs.items old.lists h) k (at-last cs C (length old.pairs.items) h.paired)
    (own watch.first (inl refl)) (own watch.second (inr refl))

-- ---- clauses that are alive

pub open-quiet : (T : Lit → Bool) (o : Option Watch) (c : Clause) → ((l : Lit) → IsWatched o l → Contains c l) → AreOpen T o → IsQuiet T c
open-quiet T None c own h = absurd h
open-quiet T (Some w) c own (ne, f, g) = inr (w.first, w.second, own w.first (inl refl), own w.second (inr refl), ne, f, g)

alive-quiet : (T : Lit → Bool) (o : Option Watch) (c : Clause) → ((l : Lit) → IsWatched o l → Contains c l) → IsAlive T o c → IsQuiet T c
alive-quiet T o c own (inl x) = inl x
alive-quiet T o c own (inr both) = open-quiet T o c own both

pub all-quiet : (n : ℕ) (cs : List Clause) (w : Watches) (T : Lit → Bool) → IsWatching n cs w → AreAliveBy T w.pairs.items cs → AreQuiet T cs
all-quiet n cs w T h alive c (i, lt, is) = alive-quiet T (watch_of w i) c (λ l. h.members i c l (lt, is)) (alive i c (lt, is))

-- two literals that are open
pub two-open : (cells : List Cell) (q : ℕ) (c : Clause) (w : Watch) → AreTwoOpen cells c w → AreOpen (true_before cells q) (Some w)
two-open cells q c w h = (h.2, free-before cells q w.first h.3, free-before cells q w.second h.4)

-- an unvisited clause watches nothing
pub unset-watching : (n : ℕ) (cs : List Clause) (w : Watches) → AreUnset n (length cs) w → IsWatching n cs w
unset-watching n cs w h = record {
  sized = h.empty.sized;
  paired = h.paired;
  listed = λ i l k. absurd (subst (λ (p : Option Watch). IsWatched p l) (h.unset i) k);
  within = λ l i has. absurd (contains_nothing i (subst (λ (ps : List ℕ). Contains ps i) (h.empty.empty l) has));
  members = λ i c l at k. absurd (subst (λ (p : Option Watch). IsWatched p l) (h.unset i) k);
}

-- the watched literals of a clause have cells
pub watched-in-cells : (n : ℕ) (cs : List Clause) (w : Watches) (place : ℕ) → AreInCells n cs → IsWatching n cs w → place < length cs → (l : Lit) → IsWatched (watch_of w place) l → l.atom < n
watched-in-cells n cs w place in_cells h lt l watched =
    let c : Clause = get_or cs place [] in
    let at : At cs place c = (lt, get_or_default cs place c [] lt) in
    (in_cells c (place, at.0, at.1) l (h.members place c l at watched)).1

-- ---- the place of a clause leaves a list

pub sifted-watching : (n : ℕ) (cs : List Clause) (lit : Lit) (at : ℕ) (old new : Watches) (next : ℕ) → at < length (places_of old.lists lit) → IsWatching n cs old → IsSifted lit at old new next → IsWatching n cs new
sifted-watching n cs lit at old new next lt h (inl (is, pairs, lists)) =
    subst (λ (o : Lists). AreListedBy n cs new.pairs.items o) (sym lists) (subst (λ (v : Vec (Option Watch) Global). AreListedBy n cs v.items old.lists) (sym pairs) h)
sifted-watching n cs lit at old new next lt h (inr (is, pairs, gone, s)) =
    subst (λ (v : Vec (Option Watch) Global). AreListedBy n cs v.items new.lists) (sym pairs)
    (record {
      sized = λ b. s.sizes b ∙ h.sized b;
      paired = h.paired;
      listed = λ i l w.
          ⊎_elim
          (λ (e : l ≡ lit).
          let mine : IsWatched (watch_of old i) lit = subst (λ (m : Lit). IsWatched (watch_of old i) m) e w in
          let apart : i ≢ get_or (places_of old.lists lit) at 0 = λ f. gone (subst (λ (j : ℕ). IsWatched (watch_of old j) lit) f mine) in
          subst (λ (m : Lit). Contains (places_of new.lists m) i) (sym e)
          (subst (λ (ps : List ℕ). Contains ps i) (sym s.here) (removed-has (places_of old.lists lit) at lt i (h.listed i lit mine) apart)))
          (λ (ne : l ≢ lit). subst (λ (ps : List ℕ). Contains ps i) (sym (s.elsewhere l ne)) (h.listed i l w))
          (lit-cases l lit);
      within = λ l i has.
          ⊎_elim
          (λ (e : l ≡ lit).
          h.within lit i (removed-only (places_of old.lists lit) at lt i (subst (λ (ps : List ℕ). Contains ps i) s.here (subst (λ (m : Lit). Contains (places_of new.lists m) i) e has))))
          (λ (ne : l ≢ lit). h.within l i (subst (λ (ps : List ℕ). Contains ps i) (s.elsewhere l ne) has))
          (lit-cases l lit);
      members = h.members;
    })
