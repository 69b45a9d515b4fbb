-- Characters that no pattern names may stand for each other, so that of one text there are many.
use Rattle.std.proofs.Common.{◌≡◌, ◌≢◌, ◌↔◌, ◌<◌, ◌≤◌, ◌+◌, ◌==◌, ℕ, zero, suc, Bool, true, false, not, cond, IsTrue, List, [], ◌∷◌, ◌++◌, map, filter, length, nat_eq, inl, inr, refl, sym, ap, ◌∙◌, subst, arith}
use Rattle.std.proofs.Math.Utf8.{low_scalar}
use Rattle.std.proofs.lemmas.Bool.Decides.{nat_tests}
use Rattle.std.proofs.lemmas.List.{length-map}
use Rattle.std.specs.Bool.{MatchBool}
use Rattle.std.specs.Char.{IsScalar}
use Rattle.std.specs.List.{list_any}
use Rattle.sc_lists.proofs.MemberLaws.{Has-left, Has-right, map-Has, list_any-Has}
use Rattle.sc_laws.proofs.NumberLaws.{nat_eq_true, eqb_false}
use Rattle.sc_lists.specs.Members.{Has}
use Rattle.sc_laws.proofs.BoolLaws.{not_is_true}
use Rattle.sc_pattern.proofs.TestLaws.{is_match_decides}
use Rattle.sc_pattern.specs.Language.{IsMatch, is_match, is_end, somewhere}
use Rattle.sc_pattern.specs.declared.part.Part.TheVariants.{Star, Char}
use Rattle.sc_languages.specs.Strings.{IsText, AreDistinct, Obeys, AreStrings}
use Rattle.sc_rule_laws.proofs.MemberLaws.{filter_passes, filter_within}
use Rattle.sc_rule_laws.specs.Strings.{Pattern, Signs, AreFew}
use Rattle.th_strings_instances.specs.Plenty.{pattern_letters, letters_of, having, HasOther, AreMany}
use Rattle.th_strings_instances.specs.Texts.{asked_patterns, asked_signs}
use Rattle.th_strings_instances.proofs.FewLaws.{distinct_within, enough_of}

-- ---- a character in place of another

module _ (c d : ℕ) where
  abbrev moved : ℕ → ℕ
  moved x = cond (x == c) d x

  same_test : (x e : ℕ) → e ≢ c → e ≢ d → (moved x == e) ≡ (x == e)
  same_test x e other last = by (x == c) refl
    where
      by : (b : Bool) → (x == c) ≡ b → (cond b d x == e) ≡ (x == e)
      by true f =
          let is : x ≡ c = nat_eq_true x c f in
          eqb_false d e (λ same. last (sym same)) ∙ sym (eqb_false x e (λ same. other (sym same ∙ is)))
      by false f = refl

  end_moved : (text : List ℕ) → is_end (map moved text) ≡ is_end text
  end_moved [] = refl
  end_moved (x ∷ text) = refl

  somewhere_moved : (test : List ℕ → Bool) → ((text : List ℕ) → test (map moved text) ≡ test text) → (text : List ℕ) → somewhere test (map moved text) ≡ somewhere test text
  somewhere_moved test same [] = same []
  somewhere_moved test same (x ∷ text) = rw (same (x ∷ text), somewhere_moved test same text) refl

  -- a pattern that names neither doesn't tell
  match_moved : (q : Pattern) → ¬ (Has (pattern_letters q) c) → ¬ (Has (pattern_letters q) d) → (text : List ℕ) → is_match q (map moved text) ≡ is_match q text
  unfolding is_match
  match_moved [] h k text = end_moved text
  match_moved (Star ∷ q) h k text = somewhere_moved (is_match q) (match_moved q h k) text
  match_moved (Char e ∷ q) h k [] = refl
  match_moved (Char e ∷ q) h k (x ∷ text) = rw (same_test x e (λ same. h (inl same)) (λ same. k (inl same)), match_moved q (λ there. h (inr there)) (λ there. k (inr there)) text) refl

  matches_moved : (q : Pattern) (sign : Bool) (text : List ℕ) → is_match q (map moved text) ≡ is_match q text → (IsTrue sign ↔ IsMatch q text) → IsTrue sign ↔ IsMatch q (map moved text)
  matches_moved q sign text same h = (
    λ t. (is_match_decides q (map moved text)).0 (same ∙ (is_match_decides q text).1 (h.0 t)),
    λ t. h.1 ((is_match_decides q text).0 (sym same ∙ (is_match_decides q (map moved text)).1 t)),
  )

  obeys_moved : (qs : List Pattern) (signs : List Bool) (text : List ℕ) → ¬ (Has (letters_of qs) c) → ¬ (Has (letters_of qs) d) → Obeys qs signs text → Obeys qs signs (map moved text)
  obeys_moved [] signs text h k o = tt
  obeys_moved (q ∷ qs) [] text h k o = tt
  obeys_moved (q ∷ qs) (sign ∷ signs) text h k o = (
    matches_moved q sign text (match_moved q (λ there. h (Has-left (pattern_letters q) (letters_of qs) c there)) (λ there. k (Has-left (pattern_letters q) (letters_of qs) d there)) text) o.0,
    obeys_moved qs signs text (λ there. h (Has-right (pattern_letters q) (letters_of qs) c there)) (λ there. k (Has-right (pattern_letters q) (letters_of qs) d there)) o.1,
  )

  text_moved : (text : List ℕ) → IsScalar d → IsText text → IsText (map moved text)
  text_moved [] h t = tt
  text_moved (x ∷ text) h t = (by (x == c), text_moved text h t.1)
    where
      by : (b : Bool) → IsScalar (cond b d x)
      by true = h
      by false = t.0

-- what stands for a character of a text is told by the text
moved_apart : (c d e : ℕ) (text : List ℕ) → Has text c → map (moved c d) text ≡ map (moved c e) text → d ≡ e
moved_apart c d e [] h same = absurd h
moved_apart c d e (x ∷ text) (inl is) same =
    let first : moved c d x ≡ moved c e x = cc in
    let test : (x == c) ≡ true = grind (arith, nat_tests, is) in
    sym (ap (λ (b : Bool). cond b d x) test) ∙ first ∙ ap (λ (b : Bool). cond b e x) test
moved_apart c d e (x ∷ text) (inr there) same =
    let rest : map (moved c d) text ≡ map (moved c e) text = cc in
    moved_apart c d e text there rest

-- ---- characters that no pattern names

abbrev below : ℕ → List ℕ
below zero = []
below (suc n) = n ∷ below n

below_less : (n c : ℕ) → Has (below n) c → c < n
below_less zero c h = absurd h
below_less (suc n) c (inl e) = omega (arith, e)
below_less (suc n) c (inr h) = let less = below_less n c h in omega (arith, less)

below_distinct : (n : ℕ) → AreDistinct (below n)
below_distinct zero = tt
below_distinct (suc n) = (λ h. (let less = below_less n n h in absurd (omega (arith, less))), below_distinct n)

below_length : (n : ℕ) → length (below n) ≡ n
below_length zero = refl
below_length (suc n) = ap suc (below_length n)

filter_distinct : {X : Type 0} (p : X → Bool) (xs : List X) → AreDistinct xs → AreDistinct (filter p xs)
filter_distinct p [] h = tt
filter_distinct p (x ∷ xs) h = by (p x) (filter_distinct p xs h.1)
  where
    by : (b : Bool) → AreDistinct (filter p xs) → AreDistinct (cond b (x ∷ filter p xs) (filter p xs))
    by true rest = (λ there. h.0 (filter_within p xs x there), rest)
    by false rest = rest

filter_both : {X : Type 0} (p : X → Bool) (xs : List X) → length (filter p xs) + length (filter (λ x. not (p x)) xs) ≡ length xs
filter_both p [] = refl
filter_both p (x ∷ xs) = by (p x) (filter_both p xs)
  where
    by : (b : Bool) → length (filter p xs) + length (filter (λ y. not (p y)) xs) ≡ length xs
        → length (cond b (x ∷ filter p xs) (filter p xs)) + length (cond (not b) (x ∷ filter (λ y. not (p y)) xs) (filter (λ y. not (p y)) xs)) ≡ suc (length xs)
    by true e = omega (arith, e)
    by false e = omega (arith, e)

abbrev named : List ℕ → ℕ → Bool
named letters c = list_any (λ y. nat_eq y c) letters

named_has : (letters : List ℕ) (c : ℕ) → named letters c ≡ true → Has letters c
named_has letters c e = subst (λ (b : Bool). MatchBool b (Has letters c) (¬ (Has letters c))) e (list_any-Has letters c)

unnamed_has : (letters : List ℕ) (c : ℕ) → named letters c ≡ false → ¬ (Has letters c)
unnamed_has letters c e = subst (λ (b : Bool). MatchBool b (Has letters c) (¬ (Has letters c))) e (list_any-Has letters c)

-- the first n characters, without those that are named
abbrev others : List ℕ → ℕ → List ℕ
others letters n = filter (λ c. not (named letters c)) (below n)

others_enough : (letters : List ℕ) (n : ℕ) → n ≤ length (others letters n) + length letters
others_enough letters n =
    let whole = filter_both (named letters) (below n) in
    let size = below_length n in
    let few = distinct_within (filter (named letters) (below n)) letters (filter_distinct (named letters) (below n) (below_distinct n)) (λ c h. named_has letters c (filter_passes (named letters) (below n) c h)) in
    omega (arith, whole, size, few)

distinct_map : {X Y : Type 0} (f : X → Y) (xs : List X) → ((x y : X) → f x ≡ f y → x ≡ y) → AreDistinct xs → AreDistinct (map f xs)
distinct_map f [] apart h = tt
distinct_map f (x ∷ xs) apart h = (λ there. (let (y, y_in, same) = map-Has f xs (f x) there in h.0 (subst (Has xs) (apart y x same) y_in)), distinct_map f xs apart h.1)

-- ---- of one text that has a character that no pattern names there are as many as there are such characters

module _ (qs : List Pattern) (signs : List Bool) (c count : ℕ) where
  abbrev with_other : List ℕ → ℕ → List ℕ
  with_other text d = map (moved c d) text

  many : HasOther qs signs c → ¬ (Has (letters_of qs) c) → count + length (letters_of qs) ≤ 55296 → AreMany qs signs count
  many one unnamed most =
      let n = count + length (letters_of qs) in
      let enough = others_enough (letters_of qs) n in
      let size = length-map (others (letters_of qs) n) (with_other one.text) in
      record {
        texts = map (with_other one.text) (others (letters_of qs) n);
        distinct = distinct_map (with_other one.text) (others (letters_of qs) n) (λ d e same. moved_apart c d e one.text one.has same) (filter_distinct (λ e. not (named (letters_of qs) e)) (below n) (below_distinct n));
        are_texts = λ text h. (
            let (d, d_in, is) = map-Has (with_other one.text) (others (letters_of qs) n) text h in
            let less = below_less n d (filter_within (λ e. not (named (letters_of qs) e)) (below n) d d_in) in
            subst IsText is (text_moved c d one.text (low_scalar d (omega (arith, less, most))) one.is_text)
            );
        obey = λ text h. (
            let (d, d_in, is) = map-Has (with_other one.text) (others (letters_of qs) n) text h in
            let free = unnamed_has (letters_of qs) d (not_is_true (named (letters_of qs) d) (filter_passes (λ e. not (named (letters_of qs) e)) (below n) d d_in)) in
            subst (Obeys qs signs) is (obeys_moved c d qs signs one.text unnamed free one.obeys)
            );
        enough = omega (arith, enough, size);
      }

-- ---- as the code tells it

-- what matches has the character
has_matched : (c : ℕ) (text : List ℕ) → IsMatch (having c) text → Has text c
unfolding IsMatch
has_matched c text (taken, rest, e, (after, f, g)) = subst (λ (t : List ℕ). Has t c) (sym (e ∙ ap (λ (t : List ℕ). taken ++ t) f)) (Has-right taken (c ∷ after) c (inl refl))

pub other_found : {X : Type 0} (qs rs : List Pattern) (signs all : List Bool) (c : ℕ) (q : Pattern) (text : X → List ℕ) (found : List X) (b : Bool)
    → rs ≡ q ∷ qs → q ≡ having c → all ≡ true ∷ signs → AreStrings rs all 1 (map text found) → b ≡ not (length found == 0) → IsTrue b → HasOther qs signs c
other_found qs rs signs all c q text [] b e f g are is h = let none : b ≡ false = is in let never : true ≡ false = sym h ∙ none in absurd cc
other_found qs rs signs all c q text (x ∷ found) b e f g are is h =
    let here : Has (map text (x ∷ found)) (text x) = inl refl in
    let obeys : Obeys (having c ∷ qs) (true ∷ signs) (text x)
    = subst (λ (ss : List Bool). Obeys (having c ∷ qs) ss (text x)) g (subst (λ (ps : List Pattern). Obeys ps all (text x)) (e ∙ ap (λ (p : Pattern). p ∷ qs) f) (are.obey (text x) here)) in
    record { text = text x; is_text = are.texts_are (text x) here; obeys = obeys.1; has = has_matched c (text x) (obeys.0.0 refl) }

pub plenty_told : (qs : List Pattern) (signs : List Bool) (c count : ℕ) (letters slice : List ℕ) (size : ℕ) (enough there b : Bool) → letters ≡ letters_of qs → slice ≡ letters → size ≡ length letters
    → (IsTrue enough → count + size ≤ 55296) → enough ≡ true → MatchBool there (Has slice c) (¬ (Has slice c)) → there ≡ false → (IsTrue b → HasOther qs signs c) → IsTrue b → AreMany qs signs count
plenty_told qs signs c count letters slice size enough there b e f g most is among_told isnt one h =
    let unnamed : ¬ (Has slice c) = subst (λ (t : Bool). MatchBool t (Has slice c) (¬ (Has slice c))) isnt among_told in
    let least : count + size ≤ 55296 = most is in
    let whole : length letters ≡ length (letters_of qs) = ap length e in
    many qs signs c count (one h) (subst (λ (ls : List ℕ). ¬ (Has ls c)) (f ∙ e) unnamed) (omega (arith, least, g, whole))

pub many_not_few : (qs : List Pattern) (v : Signs) (count : ℕ) (ps : List Pattern) (signs : List Bool) (b : Bool) → ps ≡ asked_patterns qs v → signs ≡ asked_signs v → (IsTrue b → AreMany ps signs count) → b ≡ true → IsTrue false ↔ AreFew qs v count
many_not_few qs v count ps signs b e f many_told is =
    let m = many_told is in (
      λ h. absurd cc,
      λ few. (let less = enough_of qs v count m.texts m.distinct m.are_texts (λ text h. subst (λ (ss : List Bool). Obeys (asked_patterns qs v) ss text) f (subst (λ (rs : List Pattern). Obeys rs signs text) e (m.obey text h))) few in absurd (omega (arith, less, m.enough))),
    )
