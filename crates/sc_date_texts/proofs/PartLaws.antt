-- The digits and the word that a text begins with, and what they say of the parts of a duration.
use Rattle.std.proofs.Common.{◌≡◌, ◌≢◌, ℕ, suc, ◌+◌, ◌*◌, ◌<◌, ◌≤◌, Bool, true, false, not, cond, List, [], ◌∷◌, ◌++◌, length, take, drop, refl, ap, sym, ◌∙◌, arith, subst}
use Rattle.std.specs.Bool.{⊤}
use Rattle.std.specs.List.{prefix_len}
use Rattle.std.specs.Char.{is_ascii_digit, digit_value}
use Rattle.std.specs.Str.Parse.{IsNumeral, AllDigits, digits_value}
use Rattle.std.proofs.lemmas.List.{take-append-drop, length-take}
use Rattle.std.proofs.Math.Seq.{take-append_seam, drop-append_seam}
use Rattle.std.proofs.lemmas.Bool.Decides.{nat_tests}
use Rattle.std.proofs.lemmas.Str.Parse.{digit_from_value}
use Rattle.std.proofs.lemmas.Str.{digit_value_digit}
use Rattle.sc_date_texts.specs.declared.unit.Unit.{Unit}
use Rattle.sc_date_texts.specs.declared.unit.Unit.TheVariants.{Day, Hour, Minute, Second, Millisecond}
use Rattle.sc_date_texts.specs.Units.{word_of, milliseconds_of}
use Rattle.sc_date_texts.specs.DurationText.{IsParts, nothing, without, with_unit}
use Rattle.sc_date_texts.specs.Fronts.{is_other, front_digits, behind_digits, front_word, behind_word}
use Rattle.sc_date_texts.specs.Apart.{LackWord, AreApart}

-- ---- what a text begins with

pub whole : (text : List ℕ) → text ≡ front_digits text ++ (front_word text ++ behind_word text)
unfolding front_digits behind_digits front_word behind_word
whole text =
    sym (ap (λ b. front_digits text ++ b) (take-append-drop (prefix_len is_other (behind_digits text)) (behind_digits text))
    ∙ take-append-drop (prefix_len is_ascii_digit text) text)

pub front_some : (text : List ℕ) → 0 < length (front_digits text) → 0 < length text
unfolding front_digits
front_some text some = omega (arith, length-take (prefix_len is_ascii_digit text) text)

digit_true : (c : ℕ) → digit_value c < 10 → is_ascii_digit c ≡ true
digit_true c h = let r = digit_from_value c h in grind (arith, nat_tests)

true_digit : (c : ℕ) → is_ascii_digit c ≡ true → digit_value c < 10
true_digit c h = let r : (48 ≤ c) × (c ≤ 57) = grind (arith, nat_tests) in let d = digit_value_digit c r in omega arith

pub front_are_digits : (text : List ℕ) → AllDigits 10 (front_digits text)
unfolding front_digits
front_are_digits [] = tt
front_are_digits (c ∷ cs) = by (is_ascii_digit c) refl (front_are_digits cs)
  where
    by : (b : Bool) → is_ascii_digit c ≡ b → AllDigits 10 (take (prefix_len is_ascii_digit cs) cs)
        → AllDigits 10 (take (cond b (1 + prefix_len is_ascii_digit cs) 0) (c ∷ cs))
    by false e all = tt
    by true e all =
        let one : suc (prefix_len is_ascii_digit cs) ≡ 1 + prefix_len is_ascii_digit cs = omega arith in
        subst (λ n. AllDigits 10 (take n (c ∷ cs))) one (true_digit c e, all)

-- ---- a text that is cut where digits and words end

abbrev pub Stops : (ℕ → Bool) → List ℕ → Type 0
Stops p [] = ⊤
Stops p (c ∷ cs) = p c ≡ false

abbrev pub Passes : (ℕ → Bool) → List ℕ → Type 0
Passes p [] = ⊤
Passes p (c ∷ cs) = (p c ≡ true) × Passes p cs

run : (p : ℕ → Bool) (xs rest : List ℕ) → Passes p xs → Stops p rest → prefix_len p (xs ++ rest) ≡ length xs
run p [] [] h s = refl
run p [] (c ∷ cs) h s = ap (λ b. cond b (1 + prefix_len p cs) 0) s
run p (x ∷ xs) rest h s = ap (λ b. cond b (1 + prefix_len p (xs ++ rest)) 0) h.0 ∙ (let e = run p xs rest h.1 s in omega arith)

digits_pass : (ds : List ℕ) → AllDigits 10 ds → Passes is_ascii_digit ds
digits_pass [] h = tt
digits_pass (d ∷ ds) h = (digit_true d h.0, digits_pass ds h.1)

word_passes : (u : Unit) → Passes is_other (word_of u)
word_passes Day = (refl, tt)
word_passes Hour = (refl, tt)
word_passes Minute = (refl, tt)
word_passes Second = (refl, tt)
word_passes Millisecond = (refl, (refl, tt))

word_stops : (u : Unit) (rest : List ℕ) → Stops is_ascii_digit (word_of u ++ rest)
word_stops Day rest = refl
word_stops Hour rest = refl
word_stops Minute rest = refl
word_stops Second rest = refl
word_stops Millisecond rest = refl

pub record IsCut (text digits word rest : List ℕ) : Type 0 where
  pub digits_are : front_digits text ≡ digits
  pub word_is : front_word text ≡ word
  pub rest_is : behind_word text ≡ rest

pub cut : (u : Unit) (text ds rest : List ℕ) → text ≡ ds ++ (word_of u ++ rest) → AllDigits 10 ds → Stops is_other rest → IsCut text ds (word_of u) rest
unfolding front_digits behind_digits front_word behind_word
cut u text ds rest e all stops =
    let n = ap (prefix_len is_ascii_digit) e ∙ run is_ascii_digit ds (word_of u ++ rest) (digits_pass ds all) (word_stops u rest) in
    let d : front_digits text ≡ ds = (λ i. take (n i) (e i)) ∙ take-append_seam ds (word_of u ++ rest) in
    let b : behind_digits text ≡ word_of u ++ rest = (λ i. drop (n i) (e i)) ∙ drop-append_seam ds (word_of u ++ rest) in
    let m = ap (prefix_len is_other) b ∙ run is_other (word_of u) rest (word_passes u) stops in
    record {
      digits_are = d;
      word_is = (λ i. take (m i) (b i)) ∙ take-append_seam (word_of u) rest;
      rest_is = (λ i. drop (m i) (b i)) ∙ drop-append_seam (word_of u) rest;
    }

-- ---- parts

-- what is no empty text begins with a digit
pub begins : (us : List Unit) (text : List ℕ) (n : ℕ) → IsParts us text n → Stops is_other text
begins us text n (nothing e z) = subst (Stops is_other) (sym e) tt
begins us text n (without {smaller = smaller} p) = begins smaller text n p
begins us text n (with_unit digits rest m e num p v) = subst (Stops is_other) (sym e) (first digits _ num)
  where
    first : (ds rest : List ℕ) → IsNumeral 10 ds → Stops is_other (ds ++ rest)
    first [] rest h = absurd (omega arith)
    first (d ∷ ds) rest h = ap not (digit_true d h.1.0)

-- its word is that of one of the units
pub lacks : (us : List Unit) (text word : List ℕ) (n : ℕ) → LackWord word us → IsParts us text n → 0 < length text → front_word text ≢ word
lacks us text word n apart (nothing e z) some = absurd (let l = ap length e in omega arith)
lacks us text word n apart (without {smaller = smaller} p) some = lacks smaller text word n apart.1 p some
lacks us text word n apart (with_unit {unit = unit} {smaller = smaller} digits rest m e num p v) some =
    λ same. apart.0 (sym (cut unit text digits rest e num.1 (begins smaller rest m p)).word_is ∙ same)

-- where a text begins with digits and the word of the largest unit, that unit is there
pub taken : (u : Unit) (us : List Unit) (text : List ℕ) (n : ℕ) → AreApart (u ∷ us) → 0 < length (front_digits text) → front_word text ≡ word_of u → IsParts (u ∷ us) text n
    → (m : ℕ) × IsParts us (behind_word text) m × (n ≡ digits_value 10 (front_digits text) * milliseconds_of u + m)
taken u us text n apart some word (without p) = absurd (lacks us text (word_of u) n apart.0 p (front_some text some) word)
taken u us text n apart some word (with_unit digits rest m e num p v) =
    let c = cut u text digits rest e num.1 (begins us rest m p) in
    (m, subst (λ r. IsParts us r m) (sym c.rest_is) p, v ∙ ap (λ ds. digits_value 10 ds * milliseconds_of u + m) (sym c.digits_are))

pub take_unit : (u : Unit) (us : List Unit) (text : List ℕ) (m : ℕ) → 0 < length (front_digits text) → front_word text ≡ word_of u → IsParts us (behind_word text) m
    → IsParts (u ∷ us) text (digits_value 10 (front_digits text) * milliseconds_of u + m)
take_unit u us text m some word p =
    with_unit (front_digits text) (behind_word text) m (whole text ∙ ap (λ w. front_digits text ++ (w ++ behind_word text)) word) (some, front_are_digits text) p refl

-- where it doesn't, it isn't
pub left_out : (u : Unit) (us : List Unit) (text : List ℕ) (n : ℕ) → (0 < length (front_digits text) → front_word text ≢ word_of u) → IsParts (u ∷ us) text n → IsParts us text n
left_out u us text n other (without p) = p
left_out u us text n other (with_unit digits rest m e num p v) =
    let c = cut u text digits rest e num.1 (begins us rest m p) in
    absurd (other (subst (λ ds. 0 < length ds) (sym c.digits_are) num.0) c.word_is)
