-- Where a text stops being a path.
use Rattle.std.proofs.Common.{◌≡◌, ℕ, ◌+◌, ◌<◌, List, [], ◌∷◌, ◌++◌, length, take, drop, true, false, refl, sym, ◌∙◌, subst, append_assoc, append-nil, length-append, arith, inl, inr}
use Rattle.std.proofs.lemmas.Bool.{cases_order}
use Rattle.std.proofs.lemmas.List.{take-append-drop, take-append-le}
use Rattle.std.proofs.Math.Seq.{take-append_seam, take-add, drop-append_seam}
use Rattle.sc_names.specs.Paths.{IsPath, BeginsPath, IsBadAt}
use Rattle.sc_names.specs.Scanning.{Place, start, nowhere, next, place, is_end, is_somewhere, Stops}
use Rattle.sc_names.proofs.PathLaws.{place-append, BeginsPath-place, is_somewhere-BeginsPath, is_end-path}

-- what begins a path with more bytes begins one with fewer
BeginsPath-take : (n : ℕ) (t : List ℕ) → BeginsPath t → BeginsPath (take n t)
BeginsPath-take n t b = (drop n t ++ b.0, rw (← append_assoc, take-append-drop) b.1)

one_more : (t : List ℕ) (c : ℕ) (s : List ℕ) → take (length t + 1) (t ++ c ∷ s) ≡ t ++ c ∷ []
one_more t c s = rw (take-add (length t) 1 (t ++ c ∷ s), take-append_seam t (c ∷ s), drop-append_seam t (c ∷ s)) refl

no_end : (p : Place) → is_end p ≡ false → is_end p ≡ true → ⊥
no_end p stops ends = let both : false ≡ true = sym stops ∙ ends in cc

no_more : (t : List ℕ) (c : ℕ) → next (place start t) c ≡ nowhere → BeginsPath (t ++ c ∷ []) → ⊥
unfolding is_somewhere place
no_more t c stops b =
    let there : is_somewhere (next (place start t) c) ≡ true = rw place-append at (is_somewhere-BeginsPath (t ++ c ∷ []) b) in
    let both : false ≡ true = rw stops at there in cc

pub IsBadAt-stops : (t s : List ℕ) → is_somewhere (place start t) ≡ true → Stops (place start t) s → IsBadAt (t ++ s) (length t)
unfolding Stops
IsBadAt-stops t [] somewhere stops = record {
  within = simp length-append (omega arith);
  before = λ n h. rw append-nil (BeginsPath-take n t (BeginsPath-place t somewhere));
  stops = λ h. absurd (let k : length t < length t = simp append-nil at h in omega arith);
  unfinished = λ h path. no_end (place start t) stops (is_end-path t (subst IsPath (append-nil t) path));
}
IsBadAt-stops t (c ∷ s) somewhere stops = record {
  within = simp length-append (omega arith);
  before = λ n h. rw (take-append-le n t (c ∷ s) h) (BeginsPath-take n t (BeginsPath-place t somewhere));
  stops = λ h b. no_more t c stops (subst BeginsPath (one_more t c s) b);
  unfinished = λ h path. absurd (let k : length t ≡ length t + length (c ∷ s) = simp length-append at h in omega arith);
}

-- a text with a bad byte is no path
pub not_path_IsBadAt : (t : List ℕ) (at : ℕ) → IsBadAt t at → IsPath t → ⊥
not_path_IsBadAt t at bad path =
    let begins : (n : ℕ) → BeginsPath (take n t) = λ n. BeginsPath-take n t ([], rw append-nil path) in
    elim (cases_order at (length t)) [
      | inl same ↦ bad.unfinished same path
      | inr other ↦ elim other [ inl less ↦ bad.stops less (begins (at + 1)) | inr above ↦ absurd (omega (arith, bad.within)) ]
    ]

-- there is no bad byte before the first
not_before : (t : List ℕ) (at other : ℕ) → IsBadAt t at → IsBadAt t other → at < other → ⊥
not_before t at other bad second less =
    let begins : BeginsPath (take (at + 1) t) = second.before (at + 1) (omega arith) in
    bad.stops (omega (arith, second.within)) begins

pub one_IsBadAt : (t : List ℕ) (at other : ℕ) → IsBadAt t at → IsBadAt t other → at ≡ other
one_IsBadAt t at other bad second =
    elim (cases_order at other) [
      | inl same ↦ same
      | inr apart ↦ absurd (elim apart [ inl less ↦ not_before t at other bad second less | inr above ↦ not_before t other at second bad above ])
    ]
