-- The numbers of defining clauses but the last, by the items that they come from.
use Rattle.std.proofs.Common.{◌≡◌, ◌<◌, ◌≤◌, ◌+◌, ◌-◌, ◌^◌, ℕ, zero, suc, true, false, List, [], ◌∷◌, ◌++◌, flat_map, length, get_or, nat_lt, Some, refl, sym, ap, ◌∙◌, subst, arith}
use Rattle.std.proofs.Common.{append_assoc, length-append}
use Rattle.std.proofs.lemmas.Bool.{and_parts, ltb-true}
use Rattle.std.proofs.lemmas.List.{get_or_append_left, get_or-append-add}
use Rattle.std.proofs.lemmas.List.Elements.{All-from_recursion}
use Rattle.std.specs.List.{AllByRecursion, slice_index_or}
use Rattle.sc_lists.proofs.ListLaws.{all_append}
use Rattle.sc_laws.proofs.NumberLaws.{nat_lt_true}
use Rattle.sc_clauses.specs.Assignments.{Assignment, falsifies}
use Rattle.sc_clauses.specs.Clauses.{Clause}
use Rattle.sc_term_definitions.specs.Definitions.{counted}
use Rattle.sc_footprint.specs.Definitions.{defining}
use Rattle.sc_footprint.specs.Problems.{Posed, goal_literal}
use Rattle.th_defs.specs.declared.item.Item.{Item}
use Rattle.th_defs.specs.Instances.{is_before_last}
use Rattle.th_defs.specs.Items.{kept_clauses, item_at, item_count}
use Rattle.th_defs.specs.Laws.{before, defining_is, at_before}
use Rattle.th_defs.specs.Places.{IsFirstFalsified}
use Rattle.th_defs.proofs.ReadLaws.{not_less}
use Rattle.th_defs.proofs.WholeLaws.{upto, upto_next, counted_both, joined_append}

-- ---- where the loops over items begin

pub upto_start : (p : Posed) → upto p 0 ≡ []
unfolding counted
upto_start p = refl

pub left_start : (p : Posed) (n : ℕ) → n + length (upto p 0) ≡ n
left_start p n = ap (λ (cs : List Clause). n + length cs) (upto_start p) ∙ omega arith

pub quiet_start : (p : Posed) (P : Clause → Type 0) → AllByRecursion P (upto p 0)
quiet_start p P = subst (AllByRecursion P) (sym (upto_start p)) tt

pub not_zero : (n : ℕ) → (n ≡ 0 → ⊥) → 0 < n
not_zero zero h = absurd (h refl)
not_zero (suc n) h = omega arith

-- ---- one item more

module _ (p : Posed) (k : ℕ) (i : Item) (is : i ≡ item_at p k) where
  pub upto_item : upto p (k + 1) ≡ upto p k ++ kept_clauses p i
  upto_item = upto_next p k ∙ ap (λ (j : Item). upto p k ++ kept_clauses p j) (sym is)

  pub upto_more : (count : ℕ) → count ≡ length (kept_clauses p i) → length (upto p (k + 1)) ≡ length (upto p k) + count
  upto_more count e = ap length upto_item ∙ length-append (upto p k) (kept_clauses p i) ∙ ap (λ (n : ℕ). length (upto p k) + n) (sym e)

  pub left_more : (left count number : ℕ) → count ≡ length (kept_clauses p i) → count < left → left + length (upto p k) ≡ number → left - count + length (upto p (k + 1)) ≡ number
  left_more left count number e less_than all = let more = upto_more count e in omega (arith, more, less_than, all)

  pub quiet_item : (m : Assignment) → AllByRecursion (λ c. falsifies m c ≡ false) (upto p k) → AllByRecursion (λ c. falsifies m c ≡ false) (kept_clauses p i)
      → AllByRecursion (λ c. falsifies m c ≡ false) (upto p (k + 1))
  quiet_item m h e = subst (AllByRecursion (λ c. falsifies m c ≡ false)) (sym upto_item) (all_append (λ c. falsifies m c ≡ false) (upto p k) (kept_clauses p i) h e)

-- ---- the items' clauses are the defining clauses but the last

module _ (p : Posed) (whole : upto p (item_count p) ≡ before p) where
  long : length (defining p) ≡ length (before p) + 1
  long = ap length (defining_is p) ∙ length-append (before p) ((goal_literal p ∷ []) ∷ [])

  pub inside : (n : ℕ) → 0 < n → n ≤ length (before p) → is_before_last (defining p) n ≡ true
  inside n h l = let e = long in rw (nat_lt_true 0 n h, nat_lt_true n (length (defining p)) (omega (arith, l, e))) refl

  pub some_number : (n : ℕ) → is_before_last (defining p) n ≡ true → 0 < n
  some_number n h = ltb-true 0 n (and_parts (nat_lt 0 n) (nat_lt n (length (defining p))) h).0

  pub outside : (n : ℕ) → length (before p) < n → is_before_last (defining p) n ≡ false
  outside n h = let e = long in rw (nat_lt_true 0 n (omega (arith, h)), not_less n (length (defining p)) (omega (arith, h, e))) refl

  -- those of the items from a place on
  abbrev onward : ℕ → List Clause
  onward k = flat_map (λ j. kept_clauses p (item_at p j)) (counted k (item_count p - k))

  split_here : (k : ℕ) → k ≤ item_count p → before p ≡ upto p k ++ onward k
  split_here k h =
      let all : item_count p ≡ k + (item_count p - k) = omega (arith, h) in
      let place : 0 + k ≡ k = omega arith in
      sym whole ∙ ap (upto p) all
      ∙ ap (flat_map (λ j. kept_clauses p (item_at p j))) (counted_both 0 k (item_count p - k) ∙ ap (λ (m : ℕ). counted 0 k ++ counted m (item_count p - k)) place)
      ∙ joined_append (λ j. kept_clauses p (item_at p j)) (counted 0 k) (counted k (item_count p - k))

  module _ (k end : ℕ) (i : Item) (is : i ≡ item_at p k) (ends : end ≡ item_count p) (below : k < end) where
    split_item : before p ≡ upto p k ++ (kept_clauses p i ++ onward (k + 1))
    split_item =
        split_here (k + 1) (omega (arith, ends, below)) ∙ ap (λ (cs : List Clause). cs ++ onward (k + 1)) (upto_item p k i is) ∙ append_assoc (upto p k) (kept_clauses p i) (onward (k + 1))

    pub up_to_here : length (upto p k) + length (kept_clauses p i) ≤ length (before p)
    up_to_here =
        let a = ap length split_item in
        let b = length-append (upto p k) (kept_clauses p i ++ onward (k + 1)) in
        let c = length-append (kept_clauses p i) (onward (k + 1)) in
        omega (arith, a, b, c)

    pub fits_here : (so_far n : ℕ) → so_far ≡ length (upto p k) → n ≤ length (kept_clauses p i) → length (before p) < 2 ^ 64 → so_far + n < 2 ^ 64
    fits_here so_far n e h small = let a = up_to_here in omega (arith, a, e, h, small)

    -- a clause of the item, by its number there and by its number among all
    pub numbered_here : (left number : ℕ) → 0 < left → left ≤ length (kept_clauses p i) → left + length (upto p k) ≡ number → is_before_last (defining p) number ≡ true
    numbered_here left number h l e = let a = up_to_here in inside number (omega (arith, h, e)) (omega (arith, a, l, e))

    pub read_here : (left number : ℕ) → 0 < left → left ≤ length (kept_clauses p i) → left + length (upto p k) ≡ number
        → slice_index_or (defining p) (number - 1) [] ≡ slice_index_or (kept_clauses p i) (left - 1) []
    read_here left number h l e =
        let a = up_to_here in
        let place : number - 1 ≡ length (upto p k) + (left - 1) = omega (arith, h, e) in
        ap (λ (cs : List Clause). get_or cs (number - 1) []) (defining_is p)
        ∙ get_or_append_left (before p) ((goal_literal p ∷ []) ∷ []) [] (number - 1) (omega (arith, a, h, l, e))
        ∙ ap (λ (cs : List Clause). get_or cs (number - 1) []) split_item
        ∙ ap (λ (n : ℕ). get_or (upto p k ++ (kept_clauses p i ++ onward (k + 1))) n []) place
        ∙ get_or-append-add (upto p k) (kept_clauses p i ++ onward (k + 1)) (left - 1) []
        ∙ get_or_append_left (kept_clauses p i) (onward (k + 1)) [] (left - 1) (omega (arith, h, l))

    pub falsified_item : (m : Assignment) (so_far n : ℕ) → so_far ≡ length (upto p k) → IsFirstFalsified m (kept_clauses p i) (Some n)
        → (is_before_last (defining p) (so_far + n) ≡ true) × (falsifies m (slice_index_or (defining p) (so_far + n - 1) []) ≡ true)
    falsified_item m so_far n e found =
        let all : n + length (upto p k) ≡ so_far + n = omega (arith, e) in
        (numbered_here n (so_far + n) found.0 found.1 all, ap (falsifies m) (read_here n (so_far + n) found.0 found.1 all) ∙ found.2)

  -- past the last item
  module _ (k end : ℕ) (ends : end ≡ item_count p) (past : end ≤ k) (not_past : k ≤ end) where
    pub all_here : upto p k ≡ before p
    all_here = let same : k ≡ item_count p = omega (arith, ends, past, not_past) in ap (upto p) same ∙ whole

    pub none_left : (left number : ℕ) → 0 < left → left + length (upto p k) ≡ number → is_before_last (defining p) number ≡ false
    none_left left number h e = let a = ap length all_here in outside number (omega (arith, a, h, e))

    pub all_quiet : (m : Assignment) → AllByRecursion (λ c. falsifies m c ≡ false) (upto p k) → (n : ℕ) → is_before_last (defining p) n ≡ true
        → falsifies m (slice_index_or (defining p) (n - 1) []) ≡ false
    all_quiet m h n e =
        let all = All-from_recursion (λ c. falsifies m c ≡ false) (before p) (subst (AllByRecursion (λ c. falsifies m c ≡ false)) all_here h) in
        ap (λ (cs : List Clause). falsifies m (slice_index_or cs (n - 1) [])) (defining_is p)
        ∙ at_before (λ c. falsifies m c ≡ false) (before p) (goal_literal p ∷ []) n all (ap (λ (cs : List Clause). is_before_last cs n) (sym (defining_is p)) ∙ e)

    pub with_goal : (cs ds : List Clause) → cs ≡ upto p k → ds ≡ cs ++ (goal_literal p ∷ []) ∷ [] → ds ≡ defining p
    with_goal cs ds e f = f ∙ ap (λ (l : List Clause). l ++ (goal_literal p ∷ []) ∷ []) (e ∙ all_here) ∙ sym (defining_is p)
