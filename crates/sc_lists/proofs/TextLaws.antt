-- Texts that are the same byte by byte, and the bytes that pass a test from the front on.
use Rattle.std.proofs.Common.{◌≡◌, ◌≢◌, ◌≤◌, ◌-◌, ℕ, List, Option, Some, ap, [], ◌∷◌, length, take, drop, Bool, true, false, cond, refl, sym, ◌∙◌, arith, ◌<◌, get_or, append-nil, inl, inr}
use Rattle.std.specs.Cmp.{both_ways}
use Rattle.std.specs.Prelude.{slice_get, unwrap_or}
use Rattle.std.specs.List.{list_all, take_while}
use Rattle.std.specs.Str.{bytes_eq}
use Rattle.std.proofs.lemmas.List.Folds.{length-prefix_len}
use Rattle.std.proofs.lemmas.List.Sums.{take_while-cons, prefix_len-le-length}
use Rattle.std.proofs.lemmas.Slice.Eq.{bytes_eq-Decides}
use Rattle.std.specs.Char.{encode_utf8}
use Rattle.std.proofs.lemmas.Bool.{cases_lt}
use Rattle.std.proofs.lemmas.Str.{inside_one}

pub bytes_eq_swap : (a b : List ℕ) → bytes_eq a b ≡ bytes_eq b a
bytes_eq_swap a b =
    both_ways (bytes_eq a b) (bytes_eq b a)
    (λ h. (bytes_eq-Decides b a).1 (sym ((bytes_eq-Decides a b).0 h)))
    (λ h. (bytes_eq-Decides a b).1 (sym ((bytes_eq-Decides b a).0 h)))

pub bytes_eq_true : (a b : List ℕ) → bytes_eq a b ≡ true → a ≡ b
bytes_eq_true a b = (bytes_eq-Decides a b).0

pub bytes_eq_false : (a b : List ℕ) → a ≢ b → bytes_eq a b ≡ false
bytes_eq_false a b differ = by (bytes_eq a b) refl where
  by : (t : Bool) → bytes_eq a b ≡ t → bytes_eq a b ≡ false
  by true e = absurd (differ (bytes_eq_true a b e))
  by false e = e

-- where the last bytes differ, so do the lists
pub ends_apart : (a b : List ℕ) (x y : ℕ) → slice_get a (length a - 1) ≡ Some x → slice_get b (length b - 1) ≡ Some y → x ≢ y → bytes_eq a b ≡ false
ends_apart a b x y in_a in_b differ =
    bytes_eq_false a b (λ same. differ (ap (λ (o : Option ℕ). unwrap_or o 0) (sym in_a ∙ ap (λ (zs : List ℕ). slice_get zs (length zs - 1)) same ∙ in_b)))

pub take_while_passes : (p : ℕ → Bool) (cs : List ℕ) → list_all p (take_while p cs) ≡ true
take_while_passes p [] = refl
take_while_passes p (c ∷ cs) =
    rw take_while-cons (elim (p c) as (λ b. p c ≡ b → list_all p (cond b (c ∷ take_while p cs) []) ≡ true) [
      | true ↦ λ e. rw (e, take_while_passes p cs) refl
      | false ↦ λ e. refl
    ] refl)

pub take_while_front : (p : ℕ → Bool) (cs : List ℕ) → take (length (take_while p cs)) cs ≡ take_while p cs
take_while_front p cs = rw (length-prefix_len p cs) refl

pub take_while_stops : (p : ℕ → Bool) (cs : List ℕ) → take_while p (drop (length (take_while p cs)) cs) ≡ []
take_while_stops p [] = refl
take_while_stops p (c ∷ cs) =
    rw take_while-cons (elim (p c) as (λ b. p c ≡ b → take_while p (drop (length (cond b (c ∷ take_while p cs) [])) (c ∷ cs)) ≡ []) [
      | true ↦ λ e. take_while_stops p cs
      | false ↦ λ e. take_while-cons p c cs ∙ rw e refl
    ] refl)

pub take_while_within : (p : ℕ → Bool) (cs : List ℕ) → length (take_while p cs) ≤ length cs
take_while_within p cs = rw (length-prefix_len p cs) (prefix_len-le-length p cs)

-- each byte of a character that is no single byte is high
pub high_byte : (c k : ℕ) → 128 ≤ c → k < length (encode_utf8 c) → 128 ≤ get_or (encode_utf8 c) k 0
high_byte c k high within = elim (cases_lt (get_or (encode_utf8 c) k 0) 128) [
  | inl less ↦ absurd (let same : c ≡ get_or (encode_utf8 c) k 0 = inside_one c [] (encode_utf8 c) k (sym (append-nil (encode_utf8 c))) within less in omega arith)
  | inr above ↦ above
]
