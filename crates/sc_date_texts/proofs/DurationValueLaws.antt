-- `duration_of` decides which text stands for which duration.
use Rattle.std.proofs.Common.{◌≡◌, ℕ, ◌+◌, ◌*◌, ◌^◌, ◌<◌, List, [], ◌∷◌, length, Some, None, option_map, refl, arith, ℤ, pos, negsuc, neg_ℤ, ap, sym, ◌∙◌, subst, FitsSigned, w64, Bool, true, false, cond, eqb, ltb, Result, IfOk, OnErr}
use Rattle.std.specs.Option.{option_and_then}
use Rattle.std.specs.Result.{result_ok}
use Rattle.std.specs.Str.Parse.{digits_value}
use Rattle.std.proofs.lemmas.Bool.{eqb-true, lt-ltb, ltb-true, and_parts, and_from, false≢true}
use Rattle.std.proofs.lemmas.Option.{cond_some}
use Rattle.std.proofs.lemmas.Slice.Eq.{bytes_eq-Decides}
use Rattle.sc_date_texts.specs.declared.unit.Unit.{Unit}
use Rattle.sc_date_texts.specs.Units.{word_of, milliseconds_of, all_units}
use Rattle.sc_date_texts.specs.Fronts.{front_digits, front_word, behind_word}
use Rattle.sc_date_texts.specs.Apart.{AreApart}
use Rattle.sc_date_texts.specs.DurationText.{IsParts, nothing, without, IsMagnitude, IsSigned, plain, minus, IsDurationText}
use Rattle.sc_date_texts.specs.DurationValue.{begins_with_unit, sum_of, magnitude_of, in_range, duration_of}
use Rattle.sc_date_texts.proofs.PartLaws.{taken, take_unit, left_out}
use Rattle.sc_date_texts.proofs.StepLaws.{no_length}
use Rattle.sc_date_texts.proofs.DurationLaws.{are_apart, no_minus}
use Rattle.sc_date_texts.proofs.ValueLaws.{map_some, and_then_some, eqb_false, read_by}

unit_true : (u : Unit) (text : List ℕ) → begins_with_unit u text ≡ true → (0 < length (front_digits text)) × (front_word text ≡ word_of u)
unit_true u text h = let p = and_parts _ _ h in (ltb-true 0 (length (front_digits text)) p.0, (bytes_eq-Decides (front_word text) (word_of u)).0 p.1)

unit_from : (u : Unit) (text : List ℕ) → 0 < length (front_digits text) → front_word text ≡ word_of u → begins_with_unit u text ≡ true
unit_from u text some word = and_from _ _ (lt-ltb 0 (length (front_digits text)) some) ((bytes_eq-Decides (front_word text) (word_of u)).1 word)

pub sum_to : (us : List Unit) (text : List ℕ) (n : ℕ) → sum_of us text ≡ Some n → IsParts us text n
sum_to [] text n e = let s = cond_some (eqb (length text) 0) 0 n e in nothing (no_length text (eqb-true (length text) 0 s.0)) (sym s.1)
sum_to (u ∷ us) text n e = by (begins_with_unit u text) refl e (λ m h. sum_to us (behind_word text) m h) (λ h. sum_to us text n h)
  where
    by : (t : Bool) → begins_with_unit u text ≡ t
        → cond t (option_map (λ m. digits_value 10 (front_digits text) * milliseconds_of u + m) (sum_of us (behind_word text))) (sum_of us text) ≡ Some n
        → ((m : ℕ) → sum_of us (behind_word text) ≡ Some m → IsParts us (behind_word text) m) → (sum_of us text ≡ Some n → IsParts us text n) → IsParts (u ∷ us) text n
    by true is e rest same =
        let p = unit_true u text is in
        let m = map_some (λ (m : ℕ). digits_value 10 (front_digits text) * milliseconds_of u + m) (sum_of us (behind_word text)) n e in
        subst (IsParts (u ∷ us) text) m.2 (take_unit u us text m.0 p.0 p.1 (rest m.0 m.1))
    by false is e rest same = without (same e)

pub sum_from : (us : List Unit) (text : List ℕ) (n : ℕ) → AreApart us → IsParts us text n → sum_of us text ≡ Some n
sum_from [] text n apart p = none p
  where
    none : IsParts [] text n → sum_of [] text ≡ Some n
    none (nothing e z) = (λ i. cond (eqb (length (e i)) 0) (Some 0) None) ∙ ap Some (sym z)
sum_from (u ∷ us) text n apart p = by (begins_with_unit u text) refl (λ m h. sum_from us (behind_word text) m apart.1 h) (λ h. sum_from us text n apart.1 h)
  where
    by : (t : Bool) → begins_with_unit u text ≡ t → ((m : ℕ) → IsParts us (behind_word text) m → sum_of us (behind_word text) ≡ Some m)
        → (IsParts us text n → sum_of us text ≡ Some n)
        → cond t (option_map (λ m. digits_value 10 (front_digits text) * milliseconds_of u + m) (sum_of us (behind_word text))) (sum_of us text) ≡ Some n
    by true is rest same =
        let b = unit_true u text is in
        let k = taken u us text n apart b.0 b.1 p in
        ap (option_map (λ m. digits_value 10 (front_digits text) * milliseconds_of u + m)) (rest k.0 k.1) ∙ ap Some (sym k.2)
    by false is rest same = same (left_out u us text n (λ some word. false≢true (sym is ∙ unit_from u text some word)) p)

magnitude_from : (text : List ℕ) (n : ℕ) → IsMagnitude text n → magnitude_of text ≡ Some n
magnitude_from text n m = ap (λ t. cond t (sum_of all_units text) None) (lt-ltb 0 (length text) m.not_empty) ∙ sum_from all_units text n are_apart m.parts

magnitude_to : (text : List ℕ) (n : ℕ) → magnitude_of text ≡ Some n → IsMagnitude text n
magnitude_to text n e = by (ltb 0 (length text)) refl e
  where
    by : (t : Bool) → ltb 0 (length text) ≡ t → cond t (sum_of all_units text) None ≡ Some n → IsMagnitude text n
    by true is e = record { not_empty = ltb-true 0 (length text) is; parts = sum_to all_units text n e }
    by false is e = absurd (cc)

in_range_from : (z : ℤ) → FitsSigned w64 z → in_range z ≡ Some z
in_range_from (pos n) h = ap (λ t. cond t (Some (pos n)) None) (lt-ltb n (2 ^ 63) h.sfits)
in_range_from (negsuc n) h = ap (λ t. cond t (Some (negsuc n)) None) (lt-ltb n (2 ^ 63) h.sfits)

in_range_to : (y z : ℤ) → in_range y ≡ Some z → FitsSigned w64 z × (y ≡ z)
in_range_to (pos n) z e =
    let s = cond_some (ltb n (2 ^ 63)) (pos n) z e in
    let P : ℤ → Type 0 = λ x. FitsSigned w64 x in
    (subst P s.1 (record { sfits = ltb-true n (2 ^ 63) s.0 }), s.1)
in_range_to (negsuc n) z e =
    let s = cond_some (ltb n (2 ^ 63)) (negsuc n) z e in
    let P : ℤ → Type 0 = λ x. FitsSigned w64 x in
    (subst P s.1 (record { sfits = ltb-true n (2 ^ 63) s.0 }), s.1)

plain_value : (text : List ℕ) (n : ℕ) (z : ℤ) → IsMagnitude text n → z ≡ pos n → FitsSigned w64 z → duration_of text ≡ Some z
unfolding duration_of
plain_value [] n z m e fits = absurd (let l = m.not_empty in omega arith)
plain_value (b ∷ bs) n z m e fits =
    let other = eqb_false b 45 (λ i. no_minus (b ∷ bs) bs n (ap (λ c. c ∷ bs) i) m) in
    ap (λ t. option_and_then in_range (cond t (option_map (λ k. neg_ℤ (pos k)) (magnitude_of bs)) (option_map pos (magnitude_of (b ∷ bs))))) other
    ∙ (ap (λ o. option_and_then in_range (option_map pos o)) (magnitude_from (b ∷ bs) n m) ∙ (ap in_range (sym e) ∙ in_range_from z fits))

minus_value : (rest : List ℕ) (n : ℕ) (z : ℤ) → IsMagnitude rest n → z ≡ neg_ℤ (pos n) → FitsSigned w64 z → duration_of (45 ∷ rest) ≡ Some z
unfolding duration_of
minus_value rest n z m e fits =
    ap (λ o. option_and_then in_range (option_map (λ k. neg_ℤ (pos k)) o)) (magnitude_from rest n m) ∙ (ap in_range (sym e) ∙ in_range_from z fits)

pub value_from : (text : List ℕ) (z : ℤ) → IsDurationText text z → duration_of text ≡ Some z
value_from text z d = by_sign d.signed
  where
    by_sign : IsSigned text z → duration_of text ≡ Some z
    by_sign (plain {n = n} m e) = plain_value text n z m e d.in_range
    by_sign (minus {rest = rest} {n = n} i m e) = ap duration_of i ∙ minus_value rest n z m e d.in_range

pub value_to : (text : List ℕ) (z : ℤ) → duration_of text ≡ Some z → IsDurationText text z
unfolding duration_of
value_to [] z e = absurd (cc)
value_to (b ∷ bs) z e = by_test (eqb b 45) refl e
  where
    by_test : (t : Bool) → eqb b 45 ≡ t → option_and_then in_range (cond t (option_map (λ k. neg_ℤ (pos k)) (magnitude_of bs)) (option_map pos (magnitude_of (b ∷ bs)))) ≡ Some z → IsDurationText (b ∷ bs) z
    by_test true same e =
        let t = and_then_some in_range (option_map (λ (k : ℕ). neg_ℤ (pos k)) (magnitude_of bs)) z e in
        let m = map_some (λ (k : ℕ). neg_ℤ (pos k)) (magnitude_of bs) t.0 t.1 in
        let r = in_range_to t.0 z t.2 in
        record { signed = minus (ap (λ c. c ∷ bs) (eqb-true b 45 same)) (magnitude_to bs m.0 m.1) (sym r.1 ∙ sym m.2); in_range = r.0 }
    by_test false same e =
        let t = and_then_some in_range (option_map pos (magnitude_of (b ∷ bs))) z e in
        let m = map_some pos (magnitude_of (b ∷ bs)) t.0 t.1 in
        let r = in_range_to t.0 z t.2 in
        record { signed = plain (magnitude_to (b ∷ bs) m.0 m.1) (sym r.1 ∙ sym m.2); in_range = r.0 }

pub duration_read : {E : Type 0} (text : List ℕ) (r : Result ℤ E) → IfOk r (λ z. IsDurationText text z) → OnErr r ((z : ℤ) → IsDurationText text z → ⊥) → result_ok r ≡ duration_of text
duration_read text = read_by text (IsDurationText text) (duration_of text) (value_from text) (value_to text)
