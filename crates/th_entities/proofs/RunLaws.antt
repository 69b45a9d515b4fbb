-- Runs of memberships and of places: the first one, and what holds of those in it and behind it.
use Rattle.std.proofs.Common.{◌≡◌, ◌≤◌, ◌<◌, ◌-◌, ◌==◌, ◌∙◌, ◌++◌, ℕ, Bool, true, false, cond, List, [], ◌∷◌, length, take, drop, refl, sym, ap, subst, arith}
use Rattle.std.specs.List.{AllByRecursion, take_while, prefix_len}
use Rattle.std.proofs.lemmas.Bool.Decides.{nat_tests}
use Rattle.std.proofs.lemmas.List.{take-append-drop, length-drop}
use Rattle.std.proofs.lemmas.List.Folds.{length-prefix_len}
use Rattle.std.proofs.lemmas.List.Sums.{prefix_len-le-length, take_while-cons}
use Rattle.sc_laws.proofs.NumberLaws.{nat_eq_true}
use Rattle.sc_lists.proofs.ListLaws.{all_append, all_weaker}
use Rattle.sc_clauses.specs.Assignments.{Assignment}
use Rattle.sc_footprint.specs.Problems.{Posed}
use Rattle.th_entities.specs.declared.memberships.Membership.{Membership}
use Rattle.th_entities.specs.declared.places.Place.{Place}
use Rattle.th_entities.specs.Memberships.{AreOf, IsFirstRun, IsHeld, owner_of}
use Rattle.th_entities.specs.Places.{ArePlaces, AreRooted, IsPlace, root_of}
use Rattle.th_entities.proofs.LeftLaws.{IsLeft}

-- ---- those that pass, from the front on

module _ {X : Type 0} (p : X → Bool) where
  passes_one : (x : X) (xs : List X) → AllByRecursion (λ (y : X). p y ≡ true) (take_while p xs) → AllByRecursion (λ (y : X). p y ≡ true) (take_while p (x ∷ xs))
  passes_one x xs rest = subst (AllByRecursion (λ (y : X). p y ≡ true)) (sym (take_while-cons p x xs)) (by (p x) refl)
    where
      by : (b : Bool) → p x ≡ b → AllByRecursion (λ (y : X). p y ≡ true) (cond b (x ∷ take_while p xs) [])
      by true e = (e, rest)
      by false e = tt

  passes : (xs : List X) → AllByRecursion (λ (y : X). p y ≡ true) (take_while p xs)
  passes [] = tt
  passes (x ∷ xs) = passes_one x xs (passes xs)

-- ---- the first run

module _ {X : Type 0} (number : X → ℕ) where
  abbrev is_of : ℕ → X → Bool
  is_of e k = number k == e

  module _ (e : ℕ) (known : List X) (n : ℕ) (is : n ≡ length (take_while (λ (k : X). number k == e) known)) where
    count_is : n ≡ prefix_len (is_of e) known
    count_is = is ∙ length-prefix_len (is_of e) known

    within : n ≤ length known
    within = let count = count_is in let most = prefix_len-le-length (is_of e) known in omega (arith, count, most)

    run_alike : AllByRecursion (λ (k : X). number k ≡ e) (take n known)
    run_alike =
        subst (λ (i : ℕ). AllByRecursion (λ (k : X). number k ≡ e) (take i known)) (sym count_is)
        (all_weaker (λ (k : X). is_of e k ≡ true) (λ (k : X). number k ≡ e) (λ (k : X) h. nat_eq_true (number k) e h) (take_while (is_of e) known) (passes (is_of e) known))

  some_run : (k : X) (ks : List X) → 0 < prefix_len (is_of (number k)) (k ∷ ks)
  some_run k ks =
      let same : (number k == number k) ≡ true = grind (arith, nat_tests) in
      rw same (omega arith)

  first_is : (known : List X) (k : X) (ks : List X) (n : ℕ) (run later : List X) → known ≡ k ∷ ks → n ≡ length (take_while (λ (j : X). number j == number k) known) → run ≡ take n known → later ≡ drop n known
      → IsFirstRun number known (number k) run later
  first_is known k ks n run later is count front back =
      record {
        whole = sym (take-append-drop n known) ∙ ap (λ (l : List X). l ++ drop n known) (sym front) ∙ ap (λ (l : List X). run ++ l) (sym back);
        alike = subst (AllByRecursion (λ (j : X). number j ≡ number k)) (sym front) (run_alike (number k) known n count);
        less =
            let some : 0 < prefix_len (is_of (number k)) known = subst (λ (l : List X). 0 < prefix_len (is_of (number k)) l) (sym is) (some_run k ks) in
            let many = count_is (number k) known n count in
            let size : length later ≡ length known - n = ap length back ∙ length-drop n known in
            let more : 0 < length known = rw is (omega arith) in
            omega (arith, some, many, size, more);
      }

pub run_within : (e : ℕ) (known : List Membership) (n : ℕ) → n ≡ length (take_while (λ (k : Membership). k.owner == e) known) → n ≤ length known
run_within e known n is = within owner_of e known n is

pub places_within : (r : ℕ) (places : List Place) (n : ℕ) → n ≡ length (take_while (λ (k : Place). k.root == r) places) → n ≤ length places
places_within r places n is = within root_of r places n is

pub first_is_run : (known : List Membership) (k : Membership) (ks : List Membership) (n : ℕ) (run later : List Membership) → known ≡ k ∷ ks → n ≡ length (take_while (λ (j : Membership). j.owner == k.owner) known) → run ≡ take n known
    → later ≡ drop n known → IsFirstRun owner_of known k.owner run later
first_is_run = first_is owner_of

pub first_is_root : (places : List Place) (k : Place) (ks : List Place) (n : ℕ) (run later : List Place) → places ≡ k ∷ ks → n ≡ length (take_while (λ (j : Place). j.root == k.root) places) → run ≡ take n places
    → later ≡ drop n places → IsFirstRun root_of places k.root run later
first_is_root = first_is root_of

-- ---- what holds of each

module _ {X : Type 0} (P : X → Type 0) where
  pub all_front : (run later : List X) → AllByRecursion P (run ++ later) → AllByRecursion P run
  all_front [] later h = tt
  all_front (k ∷ run) later h = (h.0, all_front run later h.1)

  pub all_behind : (run later : List X) → AllByRecursion P (run ++ later) → AllByRecursion P later
  all_behind [] later h = h
  all_behind (k ∷ run) later h = all_behind run later h.1

  -- one run less is left
  pub left_run : (Told : Type 0) (xs run later : List X) → xs ≡ run ++ later → AllByRecursion P run → IsLeft P Told xs → IsLeft P Told later
  left_run Told xs run later is here left all = left (rw is (all_append P run later here all))

-- ---- a run of memberships that an assignment says are true

module _ (p : Posed) (m : Assignment) where
  pub run_of : (known : List Membership) (e : ℕ) (run later : List Membership) → IsFirstRun owner_of known e run later → AllByRecursion (IsHeld p m) known → AreOf p m e run
  unfolding AreOf
  run_of known e run later first held = (first.alike, all_front (IsHeld p m) run later (subst (AllByRecursion (IsHeld p m)) first.whole held))

  pub held_behind : (known : List Membership) (e : ℕ) (run later : List Membership) → IsFirstRun owner_of known e run later → AllByRecursion (IsHeld p m) known → AllByRecursion (IsHeld p m) later
  held_behind known e run later first held = all_behind (IsHeld p m) run later (subst (AllByRecursion (IsHeld p m)) first.whole held)

  pub run_held : (e : ℕ) (run : List Membership) → AreOf p m e run → AllByRecursion (IsHeld p m) run
  unfolding AreOf
  run_held e run h = h.1

-- ---- the places of one root

module _ (p : Posed) where
  pub places_are : (places : List Place) → ArePlaces p places → AllByRecursion (IsPlace p) places
  unfolding ArePlaces
  places_are places h = h.1

  pub rooted_are : (r : ℕ) (places : List Place) → AreRooted p r places → AllByRecursion (IsPlace p) places
  unfolding AreRooted
  rooted_are r places h = h.1

  pub rooted_of : (places : List Place) (r : ℕ) (run later : List Place) → IsFirstRun root_of places r run later → AllByRecursion (IsPlace p) places → AreRooted p r run
  unfolding AreRooted
  rooted_of places r run later first all = (first.alike, all_front (IsPlace p) run later (subst (AllByRecursion (IsPlace p)) first.whole all))

  pub places_behind : (places : List Place) (r : ℕ) (run later : List Place) → IsFirstRun root_of places r run later → AllByRecursion (IsPlace p) places → AllByRecursion (IsPlace p) later
  places_behind places r run later first all = all_behind (IsPlace p) run later (subst (AllByRecursion (IsPlace p)) first.whole all)

  -- the root is in the table
  root_by : (places : List Place) (r : ℕ) (run later : List Place) → places ≡ run ++ later → length later < length places → AreRooted p r run → r < length p.nodes
  unfolding AreRooted
  root_by places r (k ∷ run) later is less h = subst (λ (i : ℕ). i < length p.nodes) h.0.0 h.1.0.root_in
  root_by places r [] later is less h = let same = ap length is in absurd (omega (arith, same, less))

  pub root_within : (places : List Place) (r : ℕ) (run later : List Place) → IsFirstRun root_of places r run later → AllByRecursion (IsPlace p) places → r < length p.nodes
  root_within places r run later first all = root_by places r run later first.whole first.less (rooted_of places r run later first all)
