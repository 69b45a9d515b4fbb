-- What is written of a duration reads as it.
use Rattle.std.proofs.Common.{◌≡◌, ℕ, suc, ◌^◌, ◌<◌, List, [], ◌∷◌, ◌++◌, refl, sym, subst, arith, ℤ, pos, negsuc, FitsSigned, w64, Result, Ok, Err, IfOk}
use Rattle.std.specs.Fmt.{decimal}
use Rattle.std.proofs.lemmas.List.{length-append}
use Rattle.std.proofs.lemmas.Fmt.{decimal_is_IsNumeral}
use Rattle.sc_date_texts.specs.DurationText.{nothing, without, with_unit, plain, minus, IsMagnitude, IsDurationText, duration_text}

magnitude_reads : (n : ℕ) → n < 2 ^ 64 → IsMagnitude (decimal n ++ (109 ∷ 115 ∷ [])) n
magnitude_reads n h =
    let w = decimal_is_IsNumeral n h in
    let v = w.1 in
    record {
      not_empty = omega (arith, length-append (decimal n) (109 ∷ 115 ∷ []));
      parts = without (without (without (without (with_unit (decimal n) [] 0 refl w.0 (nothing refl refl) (omega arith)))));
    }

pub written_reads : (z : ℤ) → FitsSigned w64 z → IsDurationText (duration_text z) z
written_reads (pos n) h = record { signed = plain (magnitude_reads n (let f = h.sfits in omega arith)) refl; in_range = h }
written_reads (negsuc n) h = record { signed = minus refl (magnitude_reads (suc n) (let f = h.sfits in omega arith)) refl; in_range = h }

pub reads_back : {S E : Type 0} (bytes : S → List ℕ) (r : Result S E) (z : ℤ) → FitsSigned w64 z → IfOk r (λ s. bytes s ≡ duration_text z) → IfOk r (λ s. IsDurationText (bytes s) z)
reads_back bytes (Err e) z fits h = tt
reads_back bytes (Ok s) z fits h = let P : List ℕ → Type 0 = λ t. IsDurationText t z in subst P (sym h) (written_reads z fits)
