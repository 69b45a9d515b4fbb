-- What a cursor counts, step by step.
use Rattle.std.proofs.Common.{◌≡◌, ℕ, ◌+◌, ◌-◌, ◌^◌, ◌<◌, ◌≤◌, ◌&&◌, refl, sym, ap, ◌∙◌, arith, inl, inr}
use Rattle.std.specs.Prelude.{min, nat_le}
use Rattle.std.proofs.Math.Nat.{min-eq_left, min-eq_right, le_of_lt}
use Rattle.std.proofs.lemmas.Bool.{cases_lt}
use Rattle.std.proofs.lemmas.Bool.Decides.{nat_tests}
use Rattle.sc_lexemes.specs.declared.cursor.Cursor.{Cursor}
use Rattle.sc_lexemes.specs.Depth.{Counts, fits, one_more, next, past, inside, back, deeper, outside}

-- one more than a number that stays at m where it would pass it
min-add_one : (m n : ℕ) → min (min n m + 1) m ≡ min (n + 1) m
min-add_one m n = elim (cases_lt n m) [
  | inl l ↦ ap (λ k. min (k + 1) m) (min-eq_left (le_of_lt l))
  | inr h ↦
      let past_m : m ≤ m + 1 = omega arith in
      let past_n : m ≤ n + 1 = omega (arith, h) in
      ap (λ k. min (k + 1) m) (min-eq_right h) ∙ min-eq_right past_m ∙ sym (min-eq_right past_n)
]

-- whether it is at most k is told of the number itself, where k is below m
min-nat_le : (m n k : ℕ) → k < m → nat_le (min n m) k ≡ nat_le n k
min-nat_le m n k l = elim (cases_lt n m) [
  | inl h ↦ ap (λ i. nat_le i k) (min-eq_left (le_of_lt h))
  | inr h ↦ ap (λ i. nat_le i k) (min-eq_right h) ∙ both_above m n k l h
]
  where
    both_above : (m n k : ℕ) → k < m → m ≤ n → nat_le m k ≡ nat_le n k
    both_above m n k l h = grind (arith, nat_tests)

counted : (c n : ℕ) → c ≡ min n (2 ^ 64 - 1) → one_more c ≡ min (n + 1) (2 ^ 64 - 1)
counted c n e = ap one_more e ∙ min-add_one (2 ^ 64 - 1) n

pub none_outside : (i : ℕ) → Counts (outside i) 0 0
none_outside i = record { enclosing = refl; depth = refl }

pub same_next : (s : Cursor) (e d : ℕ) → Counts s e d → Counts (next s) e d
same_next s e d c = record { enclosing = c.enclosing; depth = c.depth }

pub one_past : (s : Cursor) (e d : ℕ) → Counts s e d → Counts (past s) e (d + 1)
one_past s e d c = record { enclosing = c.enclosing; depth = counted s.depth d c.depth }

pub one_inside : (s : Cursor) (e d : ℕ) → Counts s e d → Counts (inside s) (e + 1) (d + 1)
one_inside s e d c = record { enclosing = counted s.enclosing e c.enclosing; depth = counted s.depth d c.depth }

pub as_before : (s t : Cursor) (e d : ℕ) → Counts s e d → Counts (back s t) e d
as_before s t e d c = record { enclosing = c.enclosing; depth = c.depth }

pub one_deeper : (s : Cursor) (e d : ℕ) → Counts s e d → Counts (deeper s) e (d + 1)
one_deeper s e d c = record { enclosing = c.enclosing; depth = counted s.depth d c.depth }

pub limits : (s : Cursor) (e d : ℕ) → Counts s e d → fits s ≡ (nat_le e 100 && nat_le d 1000)
limits s e d c =
    let around : nat_le s.enclosing 100 ≡ nat_le e 100 = ap (λ k. nat_le k 100) c.enclosing ∙ min-nat_le (2 ^ 64 - 1) e 100 (omega arith) in
    let open_there : nat_le s.depth 1000 ≡ nat_le d 1000 = ap (λ k. nat_le k 1000) c.depth ∙ min-nat_le (2 ^ 64 - 1) d 1000 (omega arith) in
    rw (around, open_there) refl
