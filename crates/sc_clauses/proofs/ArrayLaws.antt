-- Clauses in one array of literals: which one stands at a place, and what a further one leaves.
use Rattle.std.proofs.Common.{◌≡◌, ◌≤◌, ◌+◌, ◌-◌, ℕ, zero, suc, true, false, List, [], ◌∷◌, ◌++◌, take, drop, length, slice_get, unwrap_or, Option, Some, None, Result, Ok, Err, OnErr, option_copied, Bor, refl, sym, ap, ◌∙◌, subst, append-nil, arith}
use Rattle.std.proofs.Math.Dec.{eqb-suc-zero}
use Rattle.std.proofs.Math.Seq.{take-length}
use Rattle.std.specs.Slice.{IsGetRangeResult}
use Rattle.sc_clauses.specs.declared.lit.Lit.{Lit}
use Rattle.sc_clauses.specs.Clauses.{Clause}
use Rattle.sc_clauses.specs.Arrays.{cut, AreEnds, start_at}

-- ---- ends

-- where a clause begins, of clauses from a place on
abbrev begin : ℕ → List ℕ → ℕ → ℕ
begin from ends zero = from
begin from [] (suc place) = 0
begin from (end ∷ ends) (suc place) = begin end ends place

abbrev last_end : ℕ → List ℕ → ℕ
last_end from [] = from
last_end from (end ∷ ends) = last_end end ends

begin_after : (from : ℕ) (ends : List ℕ) (place : ℕ) → unwrap_or (slice_get ends place) 0 ≡ begin from ends (suc place)
begin_after from [] place = refl
begin_after from (x ∷ ends) zero = refl
begin_after from (x ∷ ends) (suc place) = begin_after x ends place

begins : (ends : List ℕ) (place : ℕ) → start_at ends place ≡ begin 0 ends place
begins ends zero = refl
begins ends (suc place) =
    let less : suc place - 1 ≡ place = omega arith in
    rw (eqb-suc-zero place, less) (begin_after 0 ends place)

begin_last : (from : ℕ) (ends : List ℕ) → begin from ends (length ends) ≡ last_end from ends
begin_last from [] = refl
begin_last from (x ∷ ends) = begin_last x ends

ends_rise : (ls : List Lit) (from : ℕ) (ends : List ℕ) → AreEnds ls from ends → from ≤ last_end from ends
unfolding AreEnds
ends_rise ls from [] h = omega arith
ends_rise ls from (end ∷ ends) h =
    let first : from ≤ end = h.0 in
    let later : end ≤ last_end end ends = ends_rise ls end ends h.1 in
    omega arith

ends_within : (ls : List Lit) (from : ℕ) (ends : List ℕ) → AreEnds ls from ends → last_end from ends ≤ length ls
unfolding AreEnds
ends_within ls from [] h = h
ends_within ls from (end ∷ ends) h = ends_within ls end ends h.1

pub cut_length : (ls : List Lit) (from : ℕ) (ends : List ℕ) → length (cut ls from ends) ≡ length ends
unfolding cut
cut_length ls from [] = refl
cut_length ls from (end ∷ ends) = ap suc (cut_length ls end ends)

-- ---- the clause at a place

cut_at : (ls : List Lit) (from : ℕ) (ends : List ℕ) (place end : ℕ) → slice_get ends place ≡ Some end
    → slice_get (cut ls from ends) place ≡ Some (take (end - begin from ends place) (drop (begin from ends place) ls))
unfolding cut
cut_at ls from [] place end e = cc
cut_at ls from (x ∷ ends) zero end e = let same : x ≡ end = cc in ap (λ (k : ℕ). Some (take (k - from) (drop from ls))) same
cut_at ls from (x ∷ ends) (suc place) end e = cut_at ls x ends place end e

cut_past : (ls : List Lit) (from : ℕ) (ends : List ℕ) (place : ℕ) → slice_get ends place ≡ None → slice_get (cut ls from ends) place ≡ None
unfolding cut
cut_past ls from [] place e = refl
cut_past ls from (x ∷ ends) zero e = cc
cut_past ls from (x ∷ ends) (suc place) e = cut_past ls x ends place e

-- a clause's place within the array
bounds_at : (ls : List Lit) (from : ℕ) (ends : List ℕ) (place end : ℕ) → AreEnds ls from ends → slice_get ends place ≡ Some end
    → (begin from ends place ≤ end) × (end ≤ length ls)
unfolding AreEnds
bounds_at ls from [] place end h e = absurd cc
bounds_at ls from (x ∷ ends) zero end h e =
    let same : x ≡ end = cc in
    let first : from ≤ x = h.0 in
    let rise : x ≤ last_end x ends = ends_rise ls x ends h.1 in
    let within : last_end x ends ≤ length ls = ends_within ls x ends h.1 in
    let begins : from ≤ end = omega (arith, same, first) in
    let ends : end ≤ length ls = omega (arith, same, rise, within) in
    (begins, ends)
bounds_at ls from (x ∷ ends) (suc place) end h e = bounds_at ls x ends place end h.1 e

-- what is read from there on up to the end
pub found : (ls : List Lit) (ends : List ℕ) (place start end : ℕ) (r : Option (Bor (List Lit))) → AreEnds ls 0 ends → slice_get ends place ≡ Some end
    → start ≡ start_at ends place → IsGetRangeResult ls start end r → option_copied r ≡ slice_get (cut ls 0 ends) place
found ls ends place start end None h e s g =
    let same : start ≡ begin 0 ends place = s ∙ begins ends place in
    let bounds = bounds_at ls 0 ends place end h e in
    let rises : start ≤ end = omega (arith, same, bounds.0) in
    let some : false ≡ true = g.1 (rises, bounds.1) in
    absurd cc
found ls ends place start end (Some x) h e s g =
    let same : start ≡ begin 0 ends place = s ∙ begins ends place in
    ap Some g.0.2 ∙ ap (λ (k : ℕ). Some (take (end - k) (drop k ls))) same ∙ sym (cut_at ls 0 ends place end e)

pub not_found : (ls : List Lit) (ends : List ℕ) (place : ℕ) → None ≡ slice_get ends place → None ≡ slice_get (cut ls 0 ends) place
not_found ls ends place e = sym (cut_past ls 0 ends place (sym e))

-- ---- a clause more

-- the literals before a place are those of the front alone
piece : (ls ms : List Lit) (from n l : ℕ) → from + n ≤ l → l ≤ length ls → take n (drop from (take l ls ++ ms)) ≡ take n (drop from ls)
piece ls ms from zero l h k = refl
piece [] ms from (suc n) l h k = absurd (omega arith)
piece (x ∷ xs) ms from (suc n) zero h k = absurd (omega arith)
piece (x ∷ xs) ms zero (suc n) (suc l) h k = ap (λ (ys : List Lit). x ∷ ys) (piece xs ms zero n l (omega arith) (omega arith))
piece (x ∷ xs) ms (suc from) (suc n) (suc l) h k = piece xs ms from (suc n) l (omega arith) (omega arith)

behind : (ls ms : List Lit) (l : ℕ) → l ≤ length ls → drop l (take l ls ++ ms) ≡ ms
behind ls ms zero k = refl
behind [] ms (suc l) k = absurd (omega arith)
behind (x ∷ xs) ms (suc l) k = behind xs ms l (omega arith)

length_behind : (ls ms : List Lit) (l : ℕ) → l ≤ length ls → length (take l ls ++ ms) ≡ l + length ms
length_behind ls ms zero k = omega arith
length_behind [] ms (suc l) k = absurd (omega arith)
length_behind (x ∷ xs) ms (suc l) k = let e : length (take l xs ++ ms) ≡ l + length ms = length_behind xs ms l (omega arith) in omega arith

-- what stands behind the last end doesn't count
front_cut : (ls ms : List Lit) (from : ℕ) (ends : List ℕ) (l : ℕ) → AreEnds ls from ends → last_end from ends ≤ l → l ≤ length ls
    → cut (take l ls ++ ms) from ends ≡ cut ls from ends
unfolding cut AreEnds
front_cut ls ms from [] l h k m = refl
front_cut ls ms from (end ∷ ends) l h k m =
    let first : from ≤ end = h.0 in
    let rise : end ≤ last_end end ends = ends_rise ls end ends h.1 in
    let within : last_end end ends ≤ l = k in
    let same = piece ls ms from (end - from) l (omega (arith, first, rise, within)) m in
    ap (λ (c : List Lit). c ∷ cut (take l ls ++ ms) end ends) same ∙ ap (λ (cs : List Clause). take (end - from) (drop from ls) ∷ cs) (front_cut ls ms end ends l h.1 k m)

front_ends : (ls ms : List Lit) (from : ℕ) (ends : List ℕ) (l : ℕ) → AreEnds ls from ends → last_end from ends ≤ l → l ≤ length ls → AreEnds (take l ls ++ ms) from ends
unfolding AreEnds
front_ends ls ms from [] l h k m =
    let e : length (take l ls ++ ms) ≡ l + length ms = length_behind ls ms l m in
    let within : from ≤ l = k in
    omega (arith, e, within)
front_ends ls ms from (end ∷ ends) l h k m = (h.0, front_ends ls ms end ends l h.1 k m)

more_cut : (ls ms : List Lit) (from : ℕ) (ends : List ℕ) (l : ℕ) → AreEnds ls from ends → last_end from ends ≡ l → l ≤ length ls
    → cut (take l ls ++ ms) from (ends ++ length (take l ls ++ ms) ∷ []) ≡ cut ls from ends ++ ms ∷ []
unfolding cut AreEnds
more_cut ls ms from [] l h k m =
    let same : from ≡ l = k in
    let e : length (take l ls ++ ms) - from ≡ length ms = omega (arith, length_behind ls ms l m, same) in
    ap (λ (c : List Lit). c ∷ []) (rw (e, same, behind ls ms l m) (take-length ms))
more_cut ls ms from (end ∷ ends) l h k m =
    let first : from ≤ end = h.0 in
    let rise : end ≤ last_end end ends = ends_rise ls end ends h.1 in
    let last : last_end end ends ≡ l = k in
    let same = piece ls ms from (end - from) l (omega (arith, first, rise, last)) m in
    ap (λ (c : List Lit). c ∷ cut (take l ls ++ ms) end (ends ++ length (take l ls ++ ms) ∷ [])) same
    ∙ ap (λ (cs : List Clause). take (end - from) (drop from ls) ∷ cs) (more_cut ls ms end ends l h.1 k m)

more_ends : (ls ms : List Lit) (from : ℕ) (ends : List ℕ) (l : ℕ) → AreEnds ls from ends → last_end from ends ≡ l → l ≤ length ls
    → AreEnds (take l ls ++ ms) from (ends ++ length (take l ls ++ ms) ∷ [])
unfolding AreEnds
more_ends ls ms from [] l h k m =
    let same : from ≡ l = k in
    let e : length (take l ls ++ ms) ≡ l + length ms = length_behind ls ms l m in
    (omega (arith, same, e), omega arith)
more_ends ls ms from (end ∷ ends) l h k m = (h.0, more_ends ls ms end ends l h.1 k m)

-- the same where the next clause begins: a clause is put there, or what was put is no clause yet
module _ (ls ms : List Lit) (ends : List ℕ) (start : ℕ) (h : AreEnds ls 0 ends) (s : start ≡ start_at ends (length ends)) where
  last : last_end 0 ends ≡ start
  last = sym (s ∙ begins ends (length ends) ∙ begin_last 0 ends)

  within : start ≤ length ls
  within = let e : last_end 0 ends ≡ start = last in let bound : last_end 0 ends ≤ length ls = ends_within ls 0 ends h in omega arith

  below : last_end 0 ends ≤ start
  below = let e : last_end 0 ends ≡ start = last in omega arith

  pub pushed : cut (take start ls ++ ms) 0 (ends ++ length (take start ls ++ ms) ∷ []) ≡ cut ls 0 ends ++ ms ∷ []
  pushed = more_cut ls ms 0 ends start h last within

  pub pushed_ends : AreEnds (take start ls ++ ms) 0 (ends ++ length (take start ls ++ ms) ∷ [])
  pushed_ends = more_ends ls ms 0 ends start h last within

  pub unpushed : cut (take start ls ++ ms) 0 ends ≡ cut ls 0 ends
  unpushed = front_cut ls ms 0 ends start h below within

  pub unpushed_ends : AreEnds (take start ls ++ ms) 0 ends
  unpushed_ends = front_ends ls ms 0 ends start h below within

-- and where nothing was put
module _ (ls : List Lit) (ends : List ℕ) (start : ℕ) (h : AreEnds ls 0 ends) (s : start ≡ start_at ends (length ends)) where
  pub shortened : cut (take start ls) 0 ends ≡ cut ls 0 ends
  shortened = subst (λ (ms : List Lit). cut ms 0 ends ≡ cut ls 0 ends) (append-nil (take start ls)) (unpushed ls [] ends start h s)

  pub shortened_ends : AreEnds (take start ls) 0 ends
  shortened_ends = subst (λ (ms : List Lit). AreEnds ms 0 ends) (append-nil (take start ls)) (unpushed_ends ls [] ends start h s)

-- what holds anyway holds where there is an error
pub anyway : {T E P : Type 0} (r : Result T E) → P → OnErr r P
anyway (Ok x) p = tt
anyway (Err e) p = p

-- no clauses
pub empty : AreEnds [] 0 []
unfolding AreEnds
empty = omega arith

pub empty_cut : cut [] 0 [] ≡ []
unfolding cut
empty_cut = refl
