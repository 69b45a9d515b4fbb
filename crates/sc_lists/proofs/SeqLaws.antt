-- A write to a list.
use Rattle.std.proofs.Common.{◌≡◌, ℕ, ◌+◌, ◌<◌, List, [], ◌∷◌, ◌++◌, length, take, drop, set, get_or, zero, suc, slice_get, IfSome, sym, ◌∙◌, append_assoc, arith}
use Rattle.std.proofs.lemmas.Option.{IfSome_then}
use Rattle.std.proofs.lemmas.List.{take_more_set, take-append-drop, drop-set-lt}

-- what a write leaves: the elements before it, the new one, and the elements after it
pub set_is : {X : Type 0} (xs : List X) (i : ℕ) (y : X) → i < length xs → set xs i y ≡ take i xs ++ y ∷ drop (i + 1) xs
set_is xs i y h =
    sym (take-append-drop (i + 1) (set xs i y))
    ∙ rw (take_more_set xs i y h, drop-set-lt (i + 1) xs i y (omega arith)) (append_assoc (take i xs) (y ∷ []) (drop (i + 1) xs))

same_pair : {X : Type 0} (xs : List X) (i : ℕ) (x : X) → i < length xs → x ≡ get_or xs i x → IfSome (slice_get xs i) (λ y. y ≡ x)
same_pair [] i x h is = absurd (omega arith)
same_pair (y ∷ ys) zero x h is = sym is
same_pair (y ∷ ys) (suc i) x h is = same_pair ys i x (omega arith) is

-- a pair keeps its key where its value is written
pub value_set : {K V : Type 0} (ps seen : List (K × V)) (i : ℕ) (v : V) (p : K × V) → ps ≡ seen → i < length seen → p ≡ get_or ps i p → IfSome (slice_get seen i) (λ q. set ps i (p.0, v) ≡ take i seen ++ (q.0, v) ∷ drop (i + 1) seen)
value_set ps seen i v p same h is = rw same (IfSome_then (slice_get seen i) (same_pair seen i p h (rw same at is)) (λ q e. rw e (set_is seen i (p.0, v) h)))
