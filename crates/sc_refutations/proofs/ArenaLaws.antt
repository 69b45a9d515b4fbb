-- Laws of clauses in one array of numbers.
use Rattle.std.proofs.Common.{◌≡◌, ◌+◌, ◌-◌, ◌<◌, ◌≤◌, ◌==◌, ℕ, zero, suc, List, [], ◌∷◌, ◌++◌, take, drop, get_or, map, length, nat_le, true, Some, None, slice_get, refl, sym, ap, ◌∙◌, arith}
use Rattle.std.specs.List.{list_all}
use Rattle.std.proofs.Math.Seq.{drop-append_seam}
use Rattle.std.proofs.lemmas.Bool.{and_parts, and_from, eq-eqb, eqb-true, leb-true, le-leb}
use Rattle.std.proofs.lemmas.List.Folds.{list_all-append}
use Rattle.std.proofs.lemmas.List.{take_more, take_all, take-append-le, drop-append-le, length-drop}
use Rattle.sc_clauses.specs.declared.lit.Lit.{Lit}
use Rattle.sc_clauses.specs.Clauses.{Clause}
use Rattle.sc_refutations.specs.Arenas.{lit_of, has_code, begin_at, pieces, are_ordered, are_within}

-- ---- places

last_ordered : (start : ℕ) (ends : List ℕ) (count : ℕ) → are_ordered start ends count ≡ true → start ≤ count
unfolding are_ordered
last_ordered start [] count e = let same : start ≡ count = eqb-true start count e in omega (arith, same)
last_ordered start (x ∷ ends) count e =
    let parts = and_parts (nat_le start x) (are_ordered x ends count) e in
    let here : start ≤ x = leb-true start x parts.0 in
    let later = last_ordered x ends count parts.1 in
    omega (arith, here, later)

last_within : (start : ℕ) (ends : List ℕ) (count : ℕ) → are_within start ends count ≡ true → start ≤ count
unfolding are_within
last_within start [] count e = leb-true start count e
last_within start (x ∷ ends) count e =
    let parts = and_parts (nat_le start x) (are_within x ends count) e in
    let here : start ≤ x = leb-true start x parts.0 in
    let later = last_within x ends count parts.1 in
    omega (arith, here, later)

-- further numbers may stand behind those of the clauses
pub ordered_within : (start : ℕ) (ends : List ℕ) (count more : ℕ) → count ≤ more → are_ordered start ends count ≡ true → are_within start ends more ≡ true
unfolding are_ordered are_within
ordered_within start [] count more h e =
    let same : start ≡ count = eqb-true start count e in
    le-leb start more (omega (arith, same, h))
ordered_within start (x ∷ ends) count more h e =
    let parts = and_parts (nat_le start x) (are_ordered x ends count) e in
    and_from (nat_le start x) (are_within x ends more) parts.0 (ordered_within x ends count more h parts.1)

-- a clause ends where it begins or later, and not past the numbers
pub end_within : (start : ℕ) (ends : List ℕ) (count place x : ℕ) → are_within start ends count ≡ true → slice_get ends place ≡ Some x → (begin_at start ends place ≤ x) × (x ≤ count)
unfolding are_within
end_within start [] count place x e is = absurd cc
end_within start (y ∷ ends) count zero x e is =
    let parts = and_parts (nat_le start y) (are_within y ends count) e in
    let same : y ≡ x = cc in
    let here : start ≤ y = leb-true start y parts.0 in
    let later = last_within y ends count parts.1 in
    (omega (arith, same, here), omega (arith, same, later))
end_within start (y ∷ ends) count (suc place) x e is = end_within y ends count place x (and_parts (nat_le start y) (are_within y ends count) e).1 is

begin_is : (start : ℕ) (ends : List ℕ) (place d : ℕ) → place < length ends → begin_at start ends (place + 1) ≡ get_or ends place d
begin_is start ends place d h = ap (begin_at start ends) (next place) ∙ by start ends place d h where
  next : (n : ℕ) → n + 1 ≡ suc n
  next n = omega arith

  by : (start : ℕ) (ends : List ℕ) (place d : ℕ) → place < length ends → begin_at start ends (suc place) ≡ get_or ends place d
  by start [] place d h = absurd (omega arith)
  by start (e ∷ ends) zero d h = refl
  by start (e ∷ ends) (suc place) d h = by e ends place d (omega arith)

pub begin_first : (ends : List ℕ) (place : ℕ) → place ≡ 0 → 0 ≡ begin_at 0 ends place
begin_first ends place e = sym (ap (begin_at 0 ends) e)

pub begin_later : (ends : List ℕ) (place d : ℕ) → (place ≡ 0 → ⊥) → place ≤ length ends → get_or ends (place - 1) d ≡ begin_at 0 ends place
begin_later ends place d some h =
    let back : place - 1 + 1 ≡ place = omega (arith, some) in
    sym (begin_is 0 ends (place - 1) d (omega (arith, some, h))) ∙ ap (begin_at 0 ends) back

-- ---- the clause at a place

pub get_none : (start : ℕ) (codes ends : List ℕ) (place : ℕ) → slice_get ends place ≡ None → slice_get (pieces start codes ends) place ≡ None
unfolding pieces
get_none start codes [] place e = refl
get_none start codes (x ∷ ends) zero e = absurd cc
get_none start codes (x ∷ ends) (suc place) e = get_none x codes ends place e

pub get_some : (start : ℕ) (codes ends : List ℕ) (place x : ℕ) → slice_get ends place ≡ Some x
    → slice_get (pieces start codes ends) place ≡ Some (map lit_of (take (x - begin_at start ends place) (drop (begin_at start ends place) codes)))
unfolding pieces
get_some start codes [] place x is = absurd cc
get_some start codes (y ∷ ends) zero x is =
    let same : y ≡ x = cc in
    ap (λ (n : ℕ). Some (map lit_of (take (n - start) (drop start codes)))) same
get_some start codes (y ∷ ends) (suc place) x is = get_some y codes ends place x is

pub pieces_length : (start : ℕ) (codes ends : List ℕ) → length (pieces start codes ends) ≡ length ends
unfolding pieces
pieces_length start codes [] = refl
pieces_length start codes (e ∷ ends) = ap suc (pieces_length e codes ends)

-- ---- a clause that is put behind the others

-- numbers that are put behind others leave their front as it is
front_kept : (start x : ℕ) (codes more : List ℕ) → start ≤ x → x ≤ length codes → take (x - start) (drop start (codes ++ more)) ≡ take (x - start) (drop start codes)
front_kept start x codes more h within =
    let long = length-drop start codes in
    ap (take (x - start)) (drop-append-le start codes more (omega (arith, h, within)))
    ∙ take-append-le (x - start) (drop start codes) more (omega (arith, long, within))

pieces_last : (codes more : List ℕ) (n : ℕ) → n ≡ length codes + length more → take (n - length codes) (drop (length codes) (codes ++ more)) ≡ more
pieces_last codes more n e =
    ap (take (n - length codes)) (drop-append_seam codes more) ∙ take_all (n - length codes) more (omega (arith, e))

pub pieces_more : (start : ℕ) (codes more ends : List ℕ) (n : ℕ) → are_ordered start ends (length codes) ≡ true → n ≡ length codes + length more
    → pieces start (codes ++ more) (ends ++ n ∷ []) ≡ pieces start codes ends ++ map lit_of more ∷ []
unfolding pieces are_ordered
pieces_more start codes more [] n e is =
    let same : start ≡ length codes = eqb-true start (length codes) e in
    ap (λ (s : ℕ). map lit_of (take (n - s) (drop s (codes ++ more))) ∷ []) same ∙ ap (λ (xs : List ℕ). map lit_of xs ∷ []) (pieces_last codes more n is)
pieces_more start codes more (x ∷ ends) n e is =
    let parts = and_parts (nat_le start x) (are_ordered x ends (length codes)) e in
    (λ i. map lit_of (front_kept start x codes more (leb-true start x parts.0) (last_ordered x ends (length codes) parts.1) i) ∷ pieces_more x codes more ends n parts.1 is i)

-- numbers behind the last end are no clause
pub pieces_kept : (start : ℕ) (codes more ends : List ℕ) → are_ordered start ends (length codes) ≡ true → pieces start (codes ++ more) ends ≡ pieces start codes ends
unfolding pieces are_ordered
pieces_kept start codes more [] e = refl
pieces_kept start codes more (x ∷ ends) e =
    let parts = and_parts (nat_le start x) (are_ordered x ends (length codes)) e in
    (λ i. map lit_of (front_kept start x codes more (leb-true start x parts.0) (last_ordered x ends (length codes) parts.1) i) ∷ pieces_kept x codes more ends parts.1 i)

pub ordered_more : (start count more : ℕ) (ends : List ℕ) (n m : ℕ) → are_ordered start ends count ≡ true → n ≡ count + more → m ≡ n → are_ordered start (ends ++ n ∷ []) m ≡ true
unfolding are_ordered
ordered_more start count more [] n m e is last =
    let same : start ≡ count = eqb-true start count e in
    and_from (nat_le start n) (n == m) (le-leb start n (omega (arith, same, is))) (eq-eqb n m (sym last))
ordered_more start count more (x ∷ ends) n m e is last =
    let parts = and_parts (nat_le start x) (are_ordered x ends count) e in
    and_from (nat_le start x) (are_ordered x (ends ++ n ∷ []) m) parts.0 (ordered_more x count more ends n m parts.1 is last)

-- ---- no clauses

pub no_pieces : pieces 0 [] [] ≡ []
unfolding pieces
no_pieces = refl

pub none_ordered : are_ordered 0 [] 0 ≡ true
unfolding are_ordered
none_ordered = refl

-- ---- a clause that is written

pub more_have : (c : Clause) (i : ℕ) (d : Lit) → i < length c → list_all has_code (take i c) ≡ true → has_code (get_or c i d) ≡ true → list_all has_code (take (i + 1) c) ≡ true
more_have c i d h e f =
    ap (list_all has_code) (take_more c i d h) ∙ (list_all-append has_code (take i c) (get_or c i d ∷ [])
    ∙ and_from (list_all has_code (take i c)) _ e (and_from (has_code (get_or c i d)) true f refl))

-- ---- all clauses of a list

taken_next : (clauses : List Clause) (place : ℕ) (d : Clause) → Some d ≡ slice_get clauses place → take place clauses ++ d ∷ [] ≡ take (suc place) clauses
taken_next [] place d e = absurd cc
taken_next (c ∷ clauses) zero d e = let same : d ≡ c = cc in ap (λ (x : Clause). x ∷ []) same
taken_next (c ∷ clauses) (suc place) d e = ap (λ (xs : List Clause). c ∷ xs) (taken_next clauses place d e)

none_next : (clauses : List Clause) (place : ℕ) → None ≡ slice_get clauses place → take place clauses ≡ take (suc place) clauses
none_next [] zero e = refl
none_next [] (suc place) e = refl
none_next (c ∷ clauses) zero e = absurd cc
none_next (c ∷ clauses) (suc place) e = ap (λ (xs : List Clause). c ∷ xs) (none_next clauses place e)

next_taken : (clauses : List Clause) (place : ℕ) → take (suc place) clauses ≡ take (place + 1) clauses
next_taken clauses place =
    let one : suc place ≡ place + 1 = omega arith in
    ap (λ (k : ℕ). take k clauses) one

pub taken_more : (clauses : List Clause) (place : ℕ) (d : Clause) → Some d ≡ slice_get clauses place → take place clauses ++ d ∷ [] ≡ take (place + 1) clauses
taken_more clauses place d e = taken_next clauses place d e ∙ next_taken clauses place

pub none_more : (clauses : List Clause) (place : ℕ) → None ≡ slice_get clauses place → take place clauses ≡ take (place + 1) clauses
none_more clauses place e = none_next clauses place e ∙ next_taken clauses place

pub all_taken : (clauses : List Clause) (n : ℕ) → n ≡ length clauses → take n clauses ≡ clauses
all_taken clauses n e = take_all n clauses (omega (arith, e))
