-- How many texts have signs: laws of 'fewer than so many', and how as many texts as are wanted, or all that there are, tell it.
use Rattle.std.proofs.Common.{◌≡◌, ◌≢◌, ◌↔◌, ◌<◌, ◌≤◌, ◌+◌, ℕ, zero, suc, Bool, true, false, IsTrue, List, [], ◌∷◌, ◌++◌, length, map, nat_lt, get_or, set, Option, Some, None, inl, inr, refl, sym, ap, ◌∙◌, subst, arith, rules, ⊎_elim}
use Rattle.std.proofs.lemmas.Bool.{cases_lt}
use Rattle.std.proofs.lemmas.Bool.Decides.{nat_tests}
use Rattle.std.proofs.lemmas.List.{length-append, length-map}
use Rattle.std.specs.List.{AllByRecursion}
use Rattle.sc_lists.specs.Members.{Has}
use Rattle.sc_lists.proofs.ListLaws.{all_append, all_weaker}
use Rattle.sc_lists.proofs.MemberLaws.{Has-append, AllByRecursion-Has, Has-AllByRecursion}
use Rattle.sc_pattern.specs.Language.{IsMatch}
use Rattle.sc_languages.specs.Strings.{IsText, AreDistinct, Obeys, AreStrings}
use Rattle.sc_falsified.specs.Crowds.{IsWithin, true_sign}
use Rattle.sc_rule_laws.specs.Strings.{Pattern, Signs, HasSign, HasSigns, AreFew}
use Rattle.th_strings_instances.specs.Texts.{asked_patterns, asked_signs}

-- ---- more signs, fewer texts

-- there are no fewer than no texts
pub few_none : (qs : List Pattern) (v : Signs) → AreFew qs v 0 → ⊥
unfolding AreFew
few_none qs v h = let less : 0 < 0 = h [] tt tt in absurd (omega (arith, less))

pub few_greater : (qs : List Pattern) (v : Signs) (k l : ℕ) → k ≤ l → AreFew qs v k → AreFew qs v l
unfolding AreFew
few_greater qs v k l less h texts distinct fit = let few : length texts < k = h texts distinct fit in omega (arith, few, less)

-- what has more signs has fewer
sign_less : (q : Pattern) (a b : Option Bool) (text : List ℕ) → ((s : Bool) → a ≡ Some s → b ≡ Some s) → HasSign q b text → HasSign q a text
sign_less q None b text f g = tt
sign_less q (Some s) b text f g = subst (λ (o : Option Bool). HasSign q o text) (f s refl) g

signs_empty : (qs : List Pattern) (w : Signs) (text : List ℕ) → IsWithin w [] → HasSigns qs w text
unfolding HasSigns
signs_empty [] w text f = tt
signs_empty (q ∷ qs) [] text f = tt
signs_empty (q ∷ qs) (a ∷ w) text f = (sign_less q a None text (f 0) tt, signs_empty qs w text (λ p s e. f (suc p) s e))

signs_less : (qs : List Pattern) (w v : Signs) (text : List ℕ) → IsWithin w v → HasSigns qs v text → HasSigns qs w text
unfolding HasSigns
signs_less [] w v text inside h = tt
signs_less (q ∷ qs) [] v text inside h = tt
signs_less (q ∷ qs) (a ∷ w) [] text inside h = (sign_less q a None text (inside 0) tt, signs_empty qs w text (λ p s e. inside (suc p) s e))
signs_less (q ∷ qs) (a ∷ w) (b ∷ v) text inside h = (sign_less q a b text (inside 0) h.0, signs_less qs w v text (λ p s e. inside (suc p) s e) h.1)

abbrev Fits : List Pattern → Signs → List ℕ → Type 0
Fits qs v text = IsText text × HasSigns qs v text

pub few_asked : (qs : List Pattern) (w v : Signs) (k : ℕ) → IsWithin w v → AreFew qs w k → AreFew qs v k
unfolding AreFew
few_asked qs w v k inside h texts distinct fit = h texts distinct (all_weaker (Fits qs v) (Fits qs w) (λ text f. (f.0, signs_less qs w v text inside f.1)) texts fit)

-- ---- a pattern that isn't asked splits the texts

-- a text that has a further sign has the others
signs_without : (qs : List Pattern) (v : Signs) (p : ℕ) (s : Bool) (text : List ℕ) → get_or v p None ≡ None → HasSigns qs (set v p (Some s)) text → HasSigns qs v text
unfolding HasSigns
signs_without [] v p s text e h = tt
signs_without (q ∷ qs) [] p s text e h = tt
signs_without (q ∷ qs) (a ∷ v) zero s text e h = (subst (λ (o : Option Bool). HasSign q o text) (sym e) tt, h.1)
signs_without (q ∷ qs) (a ∷ v) (suc p) s text e h = (h.0, signs_without qs v p s text e h.1)

-- and that one
sign_at : (qs : List Pattern) (v : Signs) (p : ℕ) (s : Bool) (text : List ℕ) → p < length qs → p < length v → HasSigns qs (set v p (Some s)) text → IsTrue s ↔ IsMatch (get_or qs p []) text
unfolding HasSigns
sign_at [] v p s text i j h = absurd (omega (arith, i))
sign_at (q ∷ qs) [] p s text i j h = absurd (omega (arith, j))
sign_at (q ∷ qs) (a ∷ v) zero s text i j h = h.0
sign_at (q ∷ qs) (a ∷ v) (suc p) s text i j h = sign_at qs v p s text (omega (arith, i)) (omega (arith, j)) h.1

-- lists with no common element, joined
distinct_append : {X : Type 0} (xs ys : List X) → AreDistinct xs → AreDistinct ys → ((x : X) → Has xs x → Has ys x → ⊥) → AreDistinct (xs ++ ys)
distinct_append [] ys h k apart = k
distinct_append (x ∷ xs) ys h k apart =
    (λ there. ⊎_elim h.0 (apart x (inl refl)) (Has-append xs ys x there), distinct_append xs ys h.1 k (λ z i j. apart z (inr i) j))

module _ (qs : List Pattern) (v : Signs) (p : ℕ) (size : length v ≡ length qs) (place : p < length v) (none : get_or v p None ≡ None) where
  abbrev With : Bool → List ℕ → Type 0
  With s = Fits qs (set v p (Some s))

  asked_at : (s : Bool) (text : List ℕ) → With s text → IsTrue s ↔ IsMatch (get_or qs p []) text
  asked_at s text h = sign_at qs v p s text (omega (arith, place, size)) place h.1

  -- no text matches the pattern and doesn't
  both : (text : List ℕ) → With true text → With false text → ⊥
  both text h k = let no : IsTrue false = (asked_at false text k).1 ((asked_at true text h).0 refl) in absurd cc

  without : (s : Bool) (texts : List (List ℕ)) → AllByRecursion (With s) texts → AllByRecursion (Fits qs v) texts
  without s texts = all_weaker (With s) (Fits qs v) (λ text f. (f.0, signs_without qs v p s text none f.1)) texts

  -- Of distinct texts that match the pattern and distinct ones that don't, all are distinct. So where fewer than m + n have the signs, and no
  -- fewer than m of them match it, fewer than n of them don't: n of these would leave fewer than m for any others.
  pub few_split : (m n : ℕ) → AreFew qs v (m + n) → ¬ (AreFew qs (set v p (Some true)) m) → AreFew qs (set v p (Some false)) n
  unfolding AreFew
  few_split m n few enough others distinct fit = ⊎_elim (λ less. less) (λ more. absurd (enough (by more))) (cases_lt (length others) n)
    where
      by : n ≤ length others → (texts : List (List ℕ)) → AreDistinct texts → AllByRecursion (With true) texts → length texts < m
      by more texts apart have =
          let all : length (texts ++ others) < m + n
          = few (texts ++ others) (distinct_append texts others apart distinct (λ text i j. both text (AllByRecursion-Has (With true) texts text have i) (AllByRecursion-Has (With false) others text fit j)))
          (all_append (Fits qs v) texts others (without true texts have) (without false others fit)) in
          omega (arith, all, more, length-append texts others)

-- ---- distinct elements of a list are no more than it has

abbrev rest_of : {X : Type 0} (ys : List X) (x : X) → Has ys x → List X
rest_of [] x h = []
rest_of (y ∷ ys) x (inl e) = ys
rest_of (y ∷ ys) x (inr h) = y ∷ rest_of ys x h

rest_length : {X : Type 0} (ys : List X) (x : X) (h : Has ys x) → length ys ≡ suc (length (rest_of ys x h))
rest_length [] x h = absurd h
rest_length (y ∷ ys) x (inl e) = refl
rest_length (y ∷ ys) x (inr h) = ap suc (rest_length ys x h)

rest_has : {X : Type 0} (ys : List X) (x : X) (h : Has ys x) (z : X) → z ≢ x → Has ys z → Has (rest_of ys x h) z
rest_has [] x h z other k = absurd h
rest_has (y ∷ ys) x (inl e) z other (inl f) = absurd (other (sym f ∙ e))
rest_has (y ∷ ys) x (inl e) z other (inr k) = k
rest_has (y ∷ ys) x (inr h) z other (inl f) = inl f
rest_has (y ∷ ys) x (inr h) z other (inr k) = inr (rest_has ys x h z other k)

pub distinct_within : {X : Type 0} (xs ys : List X) → AreDistinct xs → ((x : X) → Has xs x → Has ys x) → length xs ≤ length ys
distinct_within [] ys h inside = omega arith
distinct_within (x ∷ xs) ys h inside =
    let there = inside x (inl refl) in
    let less : length xs ≤ length (rest_of ys x there)
    = distinct_within xs (rest_of ys x there) h.1 (λ z k. rest_has ys x there z (λ e. h.0 (subst (Has xs) e k)) (inside z (inr k))) in
    omega (arith, less, rest_length ys x there)

-- ---- as many texts as are wanted, or all that there are

signs_obey : (qs : List Pattern) (v : Signs) (text : List ℕ) → HasSigns qs v text → Obeys (asked_patterns qs v) (asked_signs v) text
unfolding HasSigns
signs_obey [] v text h = tt
signs_obey (q ∷ qs) [] text h = tt
signs_obey (q ∷ qs) (Some s ∷ v) text h = (h.0, signs_obey qs v text h.1)
signs_obey (q ∷ qs) (None ∷ v) text h = signs_obey qs v text h.1

obey_signs : (qs : List Pattern) (v : Signs) (text : List ℕ) → Obeys (asked_patterns qs v) (asked_signs v) text → HasSigns qs v text
unfolding HasSigns
obey_signs [] v text h = tt
obey_signs (q ∷ qs) [] text h = tt
obey_signs (q ∷ qs) (Some s ∷ v) text h = (h.0, obey_signs qs v text h.1)
obey_signs (q ∷ qs) (None ∷ v) text h = (tt, obey_signs qs v text h)

-- where there are fewer, distinct texts with the signs are fewer
pub enough_of : (qs : List Pattern) (v : Signs) (n : ℕ) (texts : List (List ℕ)) → AreDistinct texts → ((text : List ℕ) → Has texts text → IsText text) → ((text : List ℕ) → Has texts text → Obeys (asked_patterns qs v) (asked_signs v) text)
    → AreFew qs v n → length texts < n
unfolding AreFew
enough_of qs v n texts distinct are obey few = few texts distinct (Has-AllByRecursion (Fits qs v) texts (λ text k. (are text k, obey_signs qs v text (obey text k))))

module _ (qs : List Pattern) (v : Signs) (n : ℕ) (texts : List (List ℕ)) (found : AreStrings (asked_patterns qs v) (asked_signs v) n texts) where
  -- where fewer are found there are fewer
  pub few_found : length texts < n → AreFew qs v n
  unfolding AreFew
  few_found less others distinct fit =
      let within = distinct_within others texts distinct (λ text k. let f = AllByRecursion-Has (Fits qs v) others text fit k in found.all less text f.0 (signs_obey qs v text f.1)) in
      omega (arith, less, within)

  -- where there are fewer, fewer are found
  pub enough_found : AreFew qs v n → length texts < n
  enough_found = enough_of qs v n texts found.distinct found.texts_are found.obey

-- the count of those that are found tells whether there are fewer
pub few_told : {X : Type 0} (qs : List Pattern) (v : Signs) (n : ℕ) (ps : List Pattern) (signs : List Bool) (text : X → List ℕ) (found : List X) (count : ℕ)
    → ps ≡ asked_patterns qs v → signs ≡ asked_signs v → AreStrings ps signs n (map text found) → count ≡ length found → IsTrue (nat_lt count n) ↔ AreFew qs v n
few_told qs v n ps signs text found count e f are size =
    let told : AreStrings (asked_patterns qs v) (asked_signs v) n (map text found)
    = subst (λ (ss : List Bool). AreStrings (asked_patterns qs v) ss n (map text found)) f (subst (λ (rs : List Pattern). AreStrings rs signs n (map text found)) e are) in
    let same : count ≡ length (map text found) = size ∙ sym (length-map found text) in (
      λ h. (let less : count < n = grind (arith, nat_tests, h) in few_found qs v n (map text found) told (omega (arith, less, same))),
      λ h. (let less : length (map text found) < n = enough_found qs v n (map text found) told h in let fewer : count < n = omega (arith, less, same) in grind (arith, nat_tests, fewer)),
    )

-- ---- without patterns there are as many texts as one likes

-- n times `a`, and so of each smaller number
abbrev letters : ℕ → List ℕ
letters zero = []
letters (suc n) = 97 ∷ letters n

letters_length : (n : ℕ) → length (letters n) ≡ n
letters_length zero = refl
letters_length (suc n) = ap suc (letters_length n)

letters_text : (n : ℕ) → IsText (letters n)
letters_text zero = tt
letters_text (suc n) = (search rules, letters_text n)

abbrev all_letters : ℕ → List (List ℕ)
all_letters zero = []
all_letters (suc n) = letters n ∷ all_letters n

shorter : (n : ℕ) (text : List ℕ) → Has (all_letters n) text → length text < n
shorter zero text h = absurd h
shorter (suc n) text (inl e) = omega (arith, ap length e, letters_length n)
shorter (suc n) text (inr h) = let less = shorter n text h in omega (arith, less)

letters_distinct : (n : ℕ) → AreDistinct (all_letters n)
letters_distinct zero = tt
letters_distinct (suc n) = (λ h. let less = shorter n (letters n) h in absurd (omega (arith, less, letters_length n)), letters_distinct n)

all_letters_length : (n : ℕ) → length (all_letters n) ≡ n
all_letters_length zero = refl
all_letters_length (suc n) = ap suc (all_letters_length n)

letters_fit : (v : Signs) (n : ℕ) → AllByRecursion (Fits [] v) (all_letters n)
unfolding HasSigns
letters_fit v zero = tt
letters_fit v (suc n) = ((letters_text n, tt), letters_fit v n)

pub never_few : (v : Signs) (n : ℕ) → AreFew [] v n → ⊥
unfolding AreFew
never_few v n h = let less = h (all_letters n) (letters_distinct n) (letters_fit v n) in absurd (omega (arith, less, all_letters_length n))

-- ---- a part of the signs tells it

true_at : (a : Option Bool) (s : Bool) → true_sign a ≡ Some s → a ≡ Some s
true_at None s e = e
true_at (Some true) s e = e
true_at (Some false) s e = absurd cc

true_within : (v : Signs) → IsWithin (map true_sign v) v
true_within [] p s e = e
true_within (a ∷ v) zero s e = true_at a s e
true_within (a ∷ v) (suc p) s e = true_within v p s e

-- and so do those that are true with one of the others
true_with : (v : Signs) (p : ℕ) → IsWithin (set (map true_sign v) p (get_or v p None)) v
true_with [] p q s e = e
true_with (a ∷ v) zero zero s e = e
true_with (a ∷ v) zero (suc q) s e = true_within v q s e
true_with (a ∷ v) (suc p) zero s e = true_at a s e
true_with (a ∷ v) (suc p) (suc q) s e = true_with v p q s e

pub few_true : (qs : List Pattern) (v w : Signs) (n : ℕ) → w ≡ map true_sign v → AreFew qs w n → AreFew qs v n
few_true qs v w n is h = few_asked qs w v n (subst (λ l. IsWithin l v) (sym is) (true_within v)) h

pub few_with : (qs : List Pattern) (v w : Signs) (p n : ℕ) → w ≡ set (map true_sign v) p (get_or v p None) → AreFew qs w n → AreFew qs v n
few_with qs v w p n is h = few_asked qs w v n (subst (λ l. IsWithin l v) (sym is) (true_with v p)) h
