-- What a search keeps, and what it has found where it ends.
use Rattle.std.proofs.Common.{◌≡◌, ◌≤◌, ◌<◌, ◌+◌, ◌||◌, ◌↔◌, ◌⊎◌, inl, inr, ℕ, zero, suc, List, [], ◌∷◌, Bool, true, false, IsTrue, length, get_or, refl, sym, ap, subst, ◌∙◌, arith, Option, Some, None}
use Rattle.std.proofs.Math.Nat.{eq-or-lt_of_le}
use Rattle.std.proofs.lemmas.Bool.{or_cases, or_left, or_right, eqb-true}
use Rattle.std.proofs.lemmas.List.Folds.{list_any_at}
use Rattle.std.proofs.lemmas.Option.{slice_get_cases}
use Rattle.std.specs.BTreeMap.{is_at}
use Rattle.std.specs.List.{slice_get}
use Rattle.std.specs.Ordering.{nat_cmp}
use Rattle.sc_laws.proofs.BoolLaws.{or_false}
use Rattle.sc_lists.proofs.OrderingLaws.{is_at_same, is_at_itself}
use Rattle.sc_graphs.specs.Reaching.{Reaches, step, on}
use Rattle.sc_graphs.specs.Graphs.{has, successors, Follows}
use Rattle.sc_graphs.specs.Searches.{is_node, is_put, IsSearched}
use Rattle.sc_graphs.proofs.ReachesLaws.{then_one}

-- these nodes were put on the list
pub record IsVisited (old nodes order : List ℕ) : Type 0 where
  pub more : length old ≤ length order
  pub kept : (k : ℕ) → k < length old → get_or order k 0 ≡ get_or old k 0
  pub members : (n : ℕ) → has order n ≡ (has old n || has nodes n)

-- ---- where a number stands on a list

-- where on a list a number stands
abbrev pub Stands : List ℕ → ℕ → Type 0
Stands ns n = (k : ℕ) × (k < length ns) × (get_or ns k 0 ≡ n)

stands_next : (m : ℕ) (ns : List ℕ) (n : ℕ) → Stands ns n → Stands (m ∷ ns) n
stands_next m ns n s = (suc s.0, omega (arith), s.2)

pub stands : (ns : List ℕ) (n : ℕ) → has ns n ≡ true → Stands ns n
stands [] n h = absurd cc
stands (m ∷ ns) n h = look (is_at (nat_cmp n) m) (is_at_same n m) h (stands ns n) where
  look : (b : Bool) → (b ≡ true → m ≡ n) → (b || has ns n) ≡ true → (has ns n ≡ true → Stands ns n) → Stands (m ∷ ns) n
  look true same found rest = (zero, omega (arith), same refl)
  look false same found rest = stands_next m ns n (rest found)

pub has_one : (ns : List ℕ) (k : ℕ) → k < length ns → has ns (get_or ns k 0) ≡ true
has_one ns k h = list_any_at (is_at (nat_cmp (get_or ns k 0))) ns k 0 h (is_at_itself (get_or ns k 0))

-- a node that stands at its place is on the list, so the list with it is the list
put_is_there : (order : List ℕ) (n : ℕ) (place : Option ℕ) → is_put order n place ≡ true → has order n ≡ true
put_is_there order n None h = absurd cc
put_is_there order n (Some place) h = look (slice_get_cases order place).1 where
  look : ((m : ℕ) × (place < length order) × (slice_get order place ≡ Some m) × (get_or order place m ≡ m)) ⊎ ((length order ≤ place) × (slice_get order place ≡ None)) → has order n ≡ true
  look (inl found) = list_any_at (is_at (nat_cmp n)) order place found.0 found.1
      (let same : found.0 ≡ n = eqb-true found.0 n (ap (is_node n) (sym found.2) ∙ h) in rw (found.3, same) (is_at_itself n))
  look (inr past) = (let no : false ≡ true = ap (is_node n) (sym past.1) ∙ h in absurd cc)

pub has_already : (order : List ℕ) (node : ℕ) (place : Option ℕ) → is_put order node place ≡ true → (n : ℕ) → has order n ≡ (has order n || has (node ∷ []) n)
has_already order node place put n = look (is_at (nat_cmp n) node) (is_at_same n node) where
  there : has order node ≡ true
  there = put_is_there order node place put

  look : (b : Bool) → (b ≡ true → node ≡ n) → has order n ≡ (has order n || (b || false))
  look true same = rw (subst (λ m. has order m ≡ true) (same refl) there)
  look false same = sym (or_false (has order n))

-- ---- the search

pub searched_first : (graph : List (List ℕ)) (start : ℕ) (order : List ℕ) → ((n : ℕ) → has order n ≡ (has [] n || has (successors graph start) n)) → IsSearched graph start order 0
searched_first graph start order members =
    record {
      sound = λ n h. step start n (sym (members n) ∙ h);
      begun = λ n h. members n ∙ h;
      closed = λ k n below h. absurd (omega (arith));
    }

pub searched_next : (graph : List (List ℕ)) (start : ℕ) (old order : List ℕ) (at : ℕ) → IsSearched graph start old at → at < length old
    → ((k : ℕ) → k < length old → get_or order k 0 ≡ get_or old k 0)
    → ((n : ℕ) → has order n ≡ (has old n || has (successors graph (get_or old at 0)) n))
    → IsSearched graph start order (at + 1)
searched_next graph start old order at s below kept members =
    record {
      sound = λ n h. from (or_cases (has old n) (has (successors graph (get_or old at 0)) n) (sym (members n) ∙ h)) n;
      begun = λ n h. members n ∙ or_left (has old n) _ (s.begun n h);
      closed = λ k n less h. closed_at k n (is_less k less) h;
    } where
      from : {n : ℕ} → (has old n ≡ true) ⊎ (has (successors graph (get_or old at 0)) n ≡ true) → (m : ℕ) → Reaches (Follows graph) start n
      from {n} (inl h) m = s.sound n h
      from {n} (inr h) m = then_one n (s.sound (get_or old at 0) (has_one old at below)) h

      is_less : (k : ℕ) → k < at + 1 → (k ≡ at) ⊎ (k < at)
      is_less k h = eq-or-lt_of_le (omega (arith))

      closed_at : (k n : ℕ) → (k ≡ at) ⊎ (k < at) → has (successors graph (get_or order k 0)) n ≡ true → has order n ≡ true
      closed_at k n (inr less) h = members n ∙ or_left (has old n) _ (s.closed k n less (subst (λ m. has (successors graph m) n ≡ true) (kept k (omega (arith))) h))
      closed_at k n (inl same) h = members n ∙ or_right (has old n) _ (subst (λ m. has (successors graph m) n ≡ true) (kept k (omega (arith)) ∙ ap (λ i. get_or old i 0) same) h)

-- what is reached from a node of the list is on it, once it is closed
closed_under : {graph : List (List ℕ)} {start : ℕ} {order : List ℕ} → IsSearched graph start order (length order)
    → {a c : ℕ} → Reaches (Follows graph) a c → has order a ≡ true → has order c ≡ true
closed_under {graph} {start} {order} s (step a b h) e = one (stands order a e) where
  one : Stands order a → has order b ≡ true
  one t = s.closed t.0 b t.1 (subst (λ m. has (successors graph m) b ≡ true) (sym t.2) h)
closed_under {graph} {start} {order} s (on a b c h r) e = closed_under s r (one (stands order a e)) where
  one : Stands order a → has order b ≡ true
  one t = s.closed t.0 b t.1 (subst (λ m. has (successors graph m) b ≡ true) (sym t.2) h)

found_all : {graph : List (List ℕ)} {start : ℕ} {order : List ℕ} → IsSearched graph start order (length order) → {c : ℕ} → Reaches (Follows graph) start c → has order c ≡ true
found_all s (step a b h) = s.begun b h
found_all s (on a b c h r) = closed_under s r (s.begun b h)

shortened : {graph : List (List ℕ)} {start : ℕ} {order : List ℕ} {at : ℕ} → IsSearched graph start order at → length order ≤ at → IsSearched graph start order (length order)
shortened s end = record { sound = s.sound; begun = s.begun; closed = λ k n below h. s.closed k n (omega (arith)) h }

pub searched_last : (graph : List (List ℕ)) (start : ℕ) (nodes order : List ℕ) (at : ℕ) → IsSearched graph start order at → length order ≤ at
    → ((n : ℕ) → has nodes n ≡ has order n) → (n : ℕ) → IsTrue (has nodes n) ↔ Reaches (Follows graph) start n
searched_last graph start nodes order at s end same n = (λ h. s.sound n (sym (same n) ∙ h), λ r. same n ∙ found_all (shortened s end) r)
