-- `decimal_of` decides which text stands for which number.
use Rattle.std.proofs.Common.{◌≡◌, ℕ, ◌+◌, ◌-◌, ◌*◌, ◌^◌, ◌<◌, List, [], ◌∷◌, ◌++◌, length, Option, Some, None, refl, arith, ℤ, pos, negsuc, neg_ℤ, ap, sym, ◌∙◌, subst, FitsSigned, w64, Bool, true, false, ◌&&◌, cond, eqb, ltb, leb, ◌↔◌, Result, Ok, Err, IfOk, OnErr}
use Rattle.std.specs.Option.{option_and_then, option_map}
use Rattle.std.specs.Result.{result_ok}
use Rattle.std.specs.Char.{digit_value}
use Rattle.std.specs.Str.Parse.{IsNumeral, AllDigits, digits_value}
use Rattle.std.proofs.lemmas.Bool.{eqb-true, lt-ltb, ltb-true, le-leb, leb-true, and_parts, and_from}
use Rattle.std.proofs.lemmas.Option.{cond_some}
use Rattle.sc_laws.proofs.NumberLaws.{eqb_false}
use Rattle.sc_laws.proofs.OptionLaws.{option_map_some, option_and_then_some}
use Rattle.sc_decimal.specs.DecimalText.{IsMagnitude, IsSigned, plain, minus, IsDecimalText}
use Rattle.sc_decimal.specs.DecimalValue.{are_digits, is_numeral, cut_at_point, sum_of, magnitude_of, in_range, decimal_of}
use Rattle.sc_decimal.proofs.DecimalLaws.{no_minus}

digits_from : (ds : List ℕ) → AllDigits 10 ds → are_digits ds ≡ true
digits_from [] h = refl
digits_from (c ∷ cs) h = and_from _ _ (lt-ltb (digit_value c) 10 h.0) (digits_from cs h.1)

digits_to : (ds : List ℕ) → are_digits ds ≡ true → AllDigits 10 ds
digits_to [] h = tt
digits_to (c ∷ cs) h = let p = and_parts _ _ h in (ltb-true (digit_value c) 10 p.0, digits_to cs p.1)

numeral_from : (ds : List ℕ) → IsNumeral 10 ds → is_numeral ds ≡ true
numeral_from ds h = and_from _ _ (lt-ltb 0 (length ds) h.0) (digits_from ds h.1)

numeral_to : (ds : List ℕ) → is_numeral ds ≡ true → IsNumeral 10 ds
numeral_to ds h = let p = and_parts _ _ h in (ltb-true 0 (length ds) p.0, digits_to ds p.1)

digit_no_point : (c : ℕ) → digit_value c < 10 → eqb c 46 ≡ false
digit_no_point c h = eqb_false c 46 (λ e. let same : digit_value c ≡ digit_value 46 = ap digit_value e in omega arith)

cut_from : (whole fraction : List ℕ) → AllDigits 10 whole → cut_at_point (whole ++ (46 ∷ fraction)) ≡ Some (whole, fraction)
cut_from [] fraction h = refl
cut_from (c ∷ cs) fraction h = rw (digit_no_point c h.0, cut_from cs fraction h.1)

cut_to : (text : List ℕ) (p : List ℕ × List ℕ) → cut_at_point text ≡ Some p → text ≡ p.0 ++ (46 ∷ p.1)
cut_to [] p e = absurd (cc)
cut_to (b ∷ bs) p e = by_test (eqb b 46) refl e (λ q i. cut_to bs q i)
  where
    by_test : (t : Bool) → eqb b 46 ≡ t → cond t (Some ([], bs)) (option_map (λ q. (b ∷ q.0, q.1)) (cut_at_point bs)) ≡ Some p → ((q : List ℕ × List ℕ) → cut_at_point bs ≡ Some q → bs ≡ q.0 ++ (46 ∷ q.1)) → b ∷ bs ≡ p.0 ++ (46 ∷ p.1)
    by_test true same e rest =
        let is : ([], bs) ≡ p = cc in
        let P : List ℕ × List ℕ → Type 0 = λ q. b ∷ bs ≡ q.0 ++ (46 ∷ q.1) in
        subst P is (ap (λ c. c ∷ bs) (eqb-true b 46 same))
    by_test false same e rest =
        let m = option_map_some (λ (q : List ℕ × List ℕ). (b ∷ q.0, q.1)) (cut_at_point bs) p e in
        let P : List ℕ × List ℕ → Type 0 = λ q. b ∷ bs ≡ q.0 ++ (46 ∷ q.1) in
        subst P m.2 (ap (λ l. b ∷ l) (rest m.0 m.1))

magnitude_from : (text : List ℕ) (n : ℕ) → IsMagnitude text n → magnitude_of text ≡ Some n
magnitude_from text n m =
    let tests : is_numeral m.whole && (is_numeral m.fraction && leb (length m.fraction) 4) ≡ true =
    and_from _ _ (numeral_from m.whole m.whole_digits) (and_from _ _ (numeral_from m.fraction m.fraction_digits) (le-leb (length m.fraction) 4 m.at_most_four)) in
    ap magnitude_of m.parts ∙ (ap (option_and_then sum_of) (cut_from m.whole m.fraction m.whole_digits.1)
    ∙ (ap (λ t. cond t (Some (digits_value 10 m.whole * 10000 + digits_value 10 m.fraction * 10 ^ (4 - length m.fraction))) None) tests ∙ ap Some (sym m.value)))

magnitude_to : (text : List ℕ) (n : ℕ) → magnitude_of text ≡ Some n → IsMagnitude text n
magnitude_to text n e =
    let t = option_and_then_some sum_of (cut_at_point text) n e in
    let s = cond_some _ _ n t.2 in
    let a = and_parts _ _ s.0 in
    let b = and_parts _ _ a.1 in
    record {
      whole = t.0.0;
      fraction = t.0.1;
      parts = cut_to text t.0 t.1;
      whole_digits = numeral_to t.0.0 a.0;
      fraction_digits = numeral_to t.0.1 b.0;
      at_most_four = leb-true (length t.0.1) 4 b.1;
      value = sym s.1;
    }

in_range_from : (z : ℤ) → FitsSigned w64 z → in_range z ≡ Some z
in_range_from (pos n) h = ap (λ t. cond t (Some (pos n)) None) (lt-ltb n (2 ^ 63) h.sfits)
in_range_from (negsuc n) h = ap (λ t. cond t (Some (negsuc n)) None) (lt-ltb n (2 ^ 63) h.sfits)

in_range_to : (y z : ℤ) → in_range y ≡ Some z → FitsSigned w64 z × (y ≡ z)
in_range_to (pos n) z e =
    let s = cond_some (ltb n (2 ^ 63)) (pos n) z e in
    let P : ℤ → Type 0 = λ x. FitsSigned w64 x in
    (subst P s.1 (record { sfits = ltb-true n (2 ^ 63) s.0 }), s.1)
in_range_to (negsuc n) z e =
    let s = cond_some (ltb n (2 ^ 63)) (negsuc n) z e in
    let P : ℤ → Type 0 = λ x. FitsSigned w64 x in
    (subst P s.1 (record { sfits = ltb-true n (2 ^ 63) s.0 }), s.1)

plain_value : (text : List ℕ) (n : ℕ) (z : ℤ) → IsMagnitude text n → z ≡ pos n → FitsSigned w64 z → decimal_of text ≡ Some z
unfolding decimal_of
plain_value [] n z m e fits = let none : magnitude_of [] ≡ Some n = magnitude_from [] n m in absurd (cc)
plain_value (b ∷ bs) n z m e fits =
    let other = eqb_false b 45 (λ i. no_minus (b ∷ bs) bs n (ap (λ c. c ∷ bs) i) m) in
    ap (λ t. option_and_then in_range (cond t (option_map (λ k. neg_ℤ (pos k)) (magnitude_of bs)) (option_map pos (magnitude_of (b ∷ bs))))) other
    ∙ (ap (λ o. option_and_then in_range (option_map pos o)) (magnitude_from (b ∷ bs) n m) ∙ (ap in_range (sym e) ∙ in_range_from z fits))

minus_value : (rest : List ℕ) (n : ℕ) (z : ℤ) → IsMagnitude rest n → z ≡ neg_ℤ (pos n) → FitsSigned w64 z → decimal_of (45 ∷ rest) ≡ Some z
unfolding decimal_of
minus_value rest n z m e fits =
    ap (λ o. option_and_then in_range (option_map (λ k. neg_ℤ (pos k)) o)) (magnitude_from rest n m) ∙ (ap in_range (sym e) ∙ in_range_from z fits)

value_from : (text : List ℕ) (z : ℤ) → IsDecimalText text z → decimal_of text ≡ Some z
value_from text z d = by_sign d.signed
  where
    by_sign : IsSigned text z → decimal_of text ≡ Some z
    by_sign (plain {n = n} m e) = plain_value text n z m e d.in_range
    by_sign (minus {rest = rest} {n = n} i m e) = ap decimal_of i ∙ minus_value rest n z m e d.in_range

value_to : (text : List ℕ) (z : ℤ) → decimal_of text ≡ Some z → IsDecimalText text z
unfolding decimal_of
value_to [] z e = absurd (cc)
value_to (b ∷ bs) z e = by_test (eqb b 45) refl e
  where
    by_test : (t : Bool) → eqb b 45 ≡ t → option_and_then in_range (cond t (option_map (λ k. neg_ℤ (pos k)) (magnitude_of bs)) (option_map pos (magnitude_of (b ∷ bs)))) ≡ Some z → IsDecimalText (b ∷ bs) z
    by_test true same e =
        let t = option_and_then_some in_range (option_map (λ (k : ℕ). neg_ℤ (pos k)) (magnitude_of bs)) z e in
        let m = option_map_some (λ (k : ℕ). neg_ℤ (pos k)) (magnitude_of bs) t.0 t.1 in
        let r = in_range_to t.0 z t.2 in
        record { signed = minus (ap (λ c. c ∷ bs) (eqb-true b 45 same)) (magnitude_to bs m.0 m.1) (sym r.1 ∙ sym m.2); in_range = r.0 }
    by_test false same e =
        let t = option_and_then_some in_range (option_map pos (magnitude_of (b ∷ bs))) z e in
        let m = option_map_some pos (magnitude_of (b ∷ bs)) t.0 t.1 in
        let r = in_range_to t.0 z t.2 in
        record { signed = plain (magnitude_to (b ∷ bs) m.0 m.1) (sym r.1 ∙ sym m.2); in_range = r.0 }

-- the number that is found is the one that the text stands for
pub decimal_of_decides : (text : List ℕ) (z : ℤ) → (decimal_of text ≡ Some z) ↔ IsDecimalText text z
decimal_of_decides text z = (value_to text z, value_from text z)

-- what is read is what is found
pub read_is : {E : Type 0} (text : List ℕ) (r : Result ℤ E) → IfOk r (λ z. IsDecimalText text z) → OnErr r ((z : ℤ) → IsDecimalText text z → ⊥) → result_ok r ≡ decimal_of text
read_is text (Ok z) ok err = sym (value_from text z ok)
read_is text (Err e) ok err = none (decimal_of text) refl
  where
    none : (o : Option ℤ) → decimal_of text ≡ o → None ≡ decimal_of text
    none None e = sym e
    none (Some z) e = absurd (err z (value_to text z e))
