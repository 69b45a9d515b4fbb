-- What a run and a star match.
use Rattle.std.specs.Str.{IsUtf8, chars, encode_utf8_all}
use Rattle.std.proofs.lemmas.Str.{encodes-chars, chars-nil}
use Rattle.std.proofs.Common.{◌≡◌, ◌≢◌, ℕ, ◌≤◌, List, [], ◌∷◌, ◌++◌, map, length, refl, sym, ◌∙◌, ap, append_assoc, arith, ◌↔◌, subst, Bool, true, false, ◌==◌, eqb-true, IsTrue}
use Rattle.sc_pattern.specs.declared.part.Part.{Part}
use Rattle.sc_pattern.specs.declared.part.Part.TheVariants.{Star, Char}
use Rattle.sc_pattern.specs.Language.{IsMatch}
use Rattle.sc_pattern.specs.Runs.{IsAfter, IsAfterRun}

-- characters that come first match themselves, and nothing else
run_on : (run rest : List ℕ) (left : List Part) → IsMatch left rest → IsMatch (map Char run ++ left) (run ++ rest)
unfolding IsMatch
run_on [] rest left m = m
run_on (c ∷ run) rest left m = (run ++ rest, refl, run_on run rest left m)

run_back : (run text : List ℕ) (left : List Part) → IsMatch (map Char run ++ left) text → (rest : List ℕ) × (text ≡ run ++ rest) × IsMatch left rest
unfolding IsMatch
run_back [] text left m = (text, refl, m)
run_back (c ∷ run) text left m =
    let more = run_back run m.0 left m.2 in
    (more.0, m.1 ∙ ap (λ l. c ∷ l) more.1, more.2)

same_rest : (run s t : List ℕ) → run ++ s ≡ run ++ t → s ≡ t
same_rest [] s t is = is
same_rest (c ∷ run) s t is = same_rest run s t (cc)

after_on : (parts left : List Part) (text rest : List ℕ) → IsAfter parts text left rest → IsMatch left rest → IsMatch parts text
after_on parts left text rest a m = rw (a.parts_are, a.text_is) (run_on a.run rest left m)

after_back : (parts left : List Part) (text rest : List ℕ) → IsAfter parts text left rest → IsMatch parts text → IsMatch left rest
after_back parts left text rest a m =
    let whole : IsMatch (map Char a.run ++ left) text = subst (λ l. IsMatch l text) a.parts_are m in
    let back = run_back a.run text left whole in
    subst (λ l. IsMatch left l) (same_rest a.run back.0 rest (sym back.1 ∙ a.text_is)) back.2

pub after_none : (parts : List Part) (text : List ℕ) → IsAfter parts text parts text
after_none parts text = record { run = []; parts_are = refl; text_is = refl }

map_more : (run : List ℕ) (c : ℕ) (left : List Part) → map Char run ++ (Char c ∷ left) ≡ map Char (run ++ (c ∷ [])) ++ left
map_more [] c left = refl
map_more (d ∷ run) c left = ap (λ l. Char d ∷ l) (map_more run c left)

-- one more character is the same
pub after_more : (parts now left : List Part) (text here rest : List ℕ) (c : ℕ) → now ≡ Char c ∷ left → here ≡ c ∷ rest
    → IsAfter parts text now here → IsAfter parts text left rest
after_more parts now left text here rest c first next a = record {
  run = a.run ++ (c ∷ []);
  parts_are = a.parts_are ∙ ap (λ l. map Char a.run ++ l) first ∙ map_more a.run c left;
  text_is = a.text_is ∙ ap (λ l. a.run ++ l) next ∙ sym (append_assoc a.run (c ∷ []) rest);
}

starts_so : (c : ℕ) (parts : List Part) (text : List ℕ) → IsMatch (Char c ∷ parts) text → (rest : List ℕ) × (text ≡ c ∷ rest)
unfolding IsMatch
starts_so c parts text m = (m.0, m.1)

begins : (parts now left : List Part) (text here : List ℕ) (c : ℕ) → now ≡ Char c ∷ left → IsAfter parts text now here → IsMatch parts text
    → (rest : List ℕ) × (here ≡ c ∷ rest)
begins parts now left text here c first a m =
    starts_so c left here (subst (λ l. IsMatch l here) first (after_back parts now text here a m))

-- the text ends within the run, or has another character there
pub ends_early : (parts now left : List Part) (text here : List ℕ) (c : ℕ) → now ≡ Char c ∷ left → here ≡ []
    → IsAfter parts text now here → ¬ (IsMatch parts text)
ends_early parts now left text here c first none a m =
    let next = begins parts now left text here c first a m in
    let no_end : [] ≡ c ∷ next.0 = sym none ∙ next.1 in
    absurd (cc)

pub has_another : (parts now left : List Part) (text here rest : List ℕ) (c d : ℕ) → now ≡ Char c ∷ left → here ≡ d ∷ rest → d ≢ c
    → IsAfter parts text now here → ¬ (IsMatch parts text)
has_another parts now left text here rest c d first there other a m =
    let next = begins parts now left text here c first a m in
    let both : d ∷ rest ≡ c ∷ next.0 = sym there ∙ next.1 in
    other (cc)

-- the pattern ends after the run: the text has to end there too
pub run_is_all : (parts left : List Part) (text rest : List ℕ) → IsAfterRun parts text left rest → length left ≡ 0 → IsMatch parts text ↔ (rest ≡ [])
unfolding IsMatch
run_is_all parts [] text rest a is = (λ m. after_back parts [] text rest a.after m, λ end. after_on parts [] text rest a.after end)
run_is_all parts (x ∷ left) text rest a is = absurd (omega (arith, is))

-- a part after the run is a star
pub star_follows : (parts left later : List Part) (text rest : List ℕ) (x : Part) → IsAfterRun parts text left rest → left ≡ x ∷ later → IsAfterRun parts text (Star ∷ later) rest
star_follows parts [] later text rest x a is = absurd (cc)
star_follows parts (Star ∷ left) later text rest x a is = subst (λ l. IsAfterRun parts text (Star ∷ l) rest) (let same : left ≡ later = cc in same) a
star_follows parts (Char c ∷ left) later text rest x a is = absurd a.stops

pub run_then_star : (parts left later : List Part) (text rest : List ℕ) (x : Part) → IsAfterRun parts text left rest → left ≡ x ∷ later
    → IsMatch parts text ↔ IsMatch (Star ∷ later) rest
run_then_star parts left later text rest x a is =
    let star = star_follows parts left later text rest x a is in
    (λ m. after_back parts (Star ∷ later) text rest star.after m, λ m. after_on parts (Star ∷ later) text rest star.after m)

-- of two fronts of one text, what follows the shorter ends in what follows the longer
ends_in : (short rest long end : List ℕ) → short ++ rest ≡ long ++ end → length short ≤ length long → (between : List ℕ) × (rest ≡ between ++ end)
ends_in [] rest long end is h = (long, is)
ends_in (c ∷ short) rest [] end is h = absurd (omega (arith, h))
ends_in (c ∷ short) rest (d ∷ long) end is h = ends_in short rest long end (cc) (omega (arith, h))

shorter : (run front : List ℕ) → length run ≤ length (front ++ run)
shorter run [] = omega arith
shorter run (c ∷ front) = omega (arith, shorter run front)

-- the first place where a run is found loses nothing: where it is found later, and what follows matches there, the
-- star after the run takes what is between the two places
first_place : (parts later : List Part) (text rest : List ℕ) → IsAfterRun parts text (Star ∷ later) rest → IsMatch (Star ∷ parts) text ↔ IsMatch (Star ∷ later) rest
unfolding IsMatch
first_place parts later text rest a = (
  λ m.
      let run : List ℕ = a.after.run in
      let whole : IsMatch (map Char run ++ (Star ∷ later)) m.1 = subst (λ l. IsMatch l m.1) a.after.parts_are m.3 in
      let back = run_back run m.1 (Star ∷ later) whole in
      let fronts : run ++ rest ≡ (m.0 ++ run) ++ back.0 = sym a.after.text_is ∙ m.2 ∙ ap (λ l. m.0 ++ l) back.1 ∙ sym (append_assoc m.0 run back.0) in
      let between = ends_in run rest (m.0 ++ run) back.0 fronts (shorter run m.0) in
      (between.0 ++ back.2.0, back.2.1, between.1 ∙ ap (λ l. between.0 ++ l) back.2.2 ∙ sym (append_assoc between.0 back.2.0 back.2.1), back.2.3),
  λ m. ([], text, refl, after_on parts (Star ∷ later) text rest a.after m),
)

pub next_star : (parts left later : List Part) (text rest : List ℕ) (x : Part) → IsAfterRun parts text left rest → left ≡ x ∷ later
    → IsMatch (Star ∷ parts) text ↔ IsMatch (Star ∷ later) rest
next_star parts left later text rest x a is = first_place parts later text rest (star_follows parts left later text rest x a is)

-- what matches here matches after a star
pub star_none : (parts : List Part) (text : List ℕ) → IsMatch parts text → IsMatch (Star ∷ parts) text
unfolding IsMatch
star_none parts text m = ([], text, refl, m)

star_later : (parts : List Part) (c : ℕ) (rest : List ℕ) → ¬ (IsMatch parts (c ∷ rest)) → IsMatch (Star ∷ parts) (c ∷ rest) → IsMatch (Star ∷ parts) rest
unfolding IsMatch
star_later parts c rest no_match ([], end, is, m) = absurd (no_match (subst (λ l. IsMatch parts l) (sym is) m))
star_later parts c rest no_match (d ∷ taken, end, is, m) = (taken, end, (cc), m)

-- where the parts don't match here, the star takes the next character
pub star_more : (parts : List Part) (c : ℕ) (text rest : List ℕ) → text ≡ c ∷ rest → ¬ (IsMatch parts text) → IsMatch (Star ∷ parts) text ↔ IsMatch (Star ∷ parts) rest
unfolding IsMatch
star_more parts c text rest is no_match =
    (λ m. star_later parts c rest (subst (λ l. ¬ (IsMatch parts l)) is no_match) (subst (λ l. IsMatch (Star ∷ parts) l) is m), λ m. (c ∷ m.0, m.1, is ∙ ap (λ l. c ∷ l) m.2, m.3))

pub star_end : (parts : List Part) (text : List ℕ) → text ≡ [] → ¬ (IsMatch parts text) → ¬ (IsMatch (Star ∷ parts) text)
unfolding IsMatch
star_end parts text none no_match ([], end, is, m) = no_match (subst (λ l. IsMatch parts l) (sym is) m)
star_end parts text none no_match (d ∷ taken, end, is, m) = let no_text : [] ≡ d ∷ (taken ++ end) = sym none ∙ is in absurd (cc)

-- a text is empty where it has no characters
pub no_chars : (bytes : List ℕ) → IsUtf8 bytes → chars bytes ≡ [] → bytes ≡ []
no_chars bytes utf8 is = sym (encodes-chars bytes utf8) ∙ ap encode_utf8_all is

pub iff_trans : {A B C : Type 0} → (A ↔ B) → (B ↔ C) → A ↔ C
iff_trans f g = (λ a. g.0 (f.0 a), λ c. f.1 (g.1 c))

nil_only : (bytes : List ℕ) → (length bytes == 0) ≡ true → bytes ≡ []
nil_only [] is = refl
nil_only (b ∷ bytes) is = absurd (let bad : length (b ∷ bytes) ≡ 0 = eqb-true (length (b ∷ bytes)) 0 is in omega (arith, bad))

pub none_left : (bytes : List ℕ) (test : Bool) → IsUtf8 bytes → test ≡ (length bytes == 0) → IsTrue test ↔ (chars bytes ≡ [])
none_left bytes test utf8 is = (λ yes_it. ap chars (nil_only bytes (sym is ∙ yes_it)) ∙ chars-nil, λ none. is ∙ ap (λ l. length l == 0) (no_chars bytes utf8 none))

not_true : IsTrue false → ⊥
not_true is = absurd (cc)

-- the run was found, but not at the text's end, where the pattern ends
pub not_here : (parts left : List Part) (text rest : List ℕ) → IsAfterRun parts text left rest → length left ≡ 0 → (IsTrue false ↔ (rest ≡ [])) → ¬ (IsMatch parts text)
not_here parts left text rest a none end m = not_true (end.1 ((run_is_all parts left text rest a none).0 m))

-- what the loop over the places after a star answers
pub found : (Whole : Type 0) (parts left : List Part) (text rest : List ℕ) → (Whole ↔ IsMatch (Star ∷ parts) text) → IsAfterRun parts text left rest → length left ≡ 0
    → (IsTrue true ↔ (rest ≡ [])) → IsTrue true ↔ Whole
found Whole parts left text rest same a none end =
    (λ t. same.1 (star_none parts text ((run_is_all parts left text rest a none).1 (end.0 t))), λ m. refl)

pub never : (Whole : Type 0) (parts : List Part) (text : List ℕ) → (Whole ↔ IsMatch (Star ∷ parts) text) → text ≡ [] → ¬ (IsMatch parts text) → IsTrue false ↔ Whole
never Whole parts text same none no_match = (λ t. absurd (not_true t), λ m. absurd (star_end parts text none no_match (same.0 m)))

pub iff_sym : {A B : Type 0} → (A ↔ B) → B ↔ A
iff_sym f = (f.1, f.0)

pub as_given : (Told : Type 0) (text : List ℕ) {now : List Part} (given : List Part) → now ≡ given → (Told ↔ IsMatch now text) → Told ↔ IsMatch given text
as_given Told text given same told = subst (λ l. Told ↔ IsMatch l text) same told
