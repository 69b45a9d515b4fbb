-- Several patterns as one list of items.
use Rattle.std.proofs.Common.{◌≡◌, ℕ, ◌+◌, ◌<◌, ◌≤◌, Bool, true, false, not, ◌&&◌, ◌||◌, ⊎_elim, inl, inr, List, [], ◌∷◌, ◌++◌, length, refl, sym, ◌∙◌, ap, subst, ◌↔◌, IsTrue, append_assoc, get_or, drop, arith}
use Rattle.std.proofs.lemmas.List.{drop_more}
use Rattle.std.proofs.lemmas.Bool.{and_parts, and_from}
use Rattle.sc_lists.proofs.MemberLaws.{Has-push}
use Rattle.sc_lists.specs.Members.{Has}
use Rattle.sc_pattern.specs.declared.part.Part.{Part}
use Rattle.sc_pattern.specs.declared.part.Part.TheVariants.{Star as any_characters, Char as this_character}
use Rattle.sc_pattern.specs.Language.{IsMatch, is_match, is_end, behind, somewhere}
use Rattle.sc_pattern.proofs.TestLaws.{is_match_decides}
use Rattle.sc_languages.specs.declared.item.Item.{Item}
use Rattle.sc_languages.specs.declared.item.Item.TheVariants.{End}
use Rattle.sc_languages.specs.Items.{part_item, with_pattern, items_of, refuses, start, fits, completes, obeys}
use Rattle.sc_languages.specs.Strings.{IsText, Obeys, AreDistinct, AreStrings}
use Rattle.sc_languages.specs.Searching.{AreSoFar, IsFound}

-- a pattern's items match what the pattern matches
fits_pattern : (parts : List Part) (sign : Bool) (rest : List Item) → fits (with_pattern parts sign rest) ≡ is_match parts
unfolding is_match
fits_pattern [] sign rest = refl
fits_pattern (any_characters ∷ parts) sign rest = ap somewhere (fits_pattern parts sign rest)
fits_pattern (this_character c ∷ parts) sign rest = ap (behind c) (fits_pattern parts sign rest)

nothing_more : (known f : Bool) → (known || (false && f)) ≡ known
nothing_more true f = refl
nothing_more false f = refl

-- behind the first item of a pattern none is active at the start, so what is known stays
good_later : (parts : List Part) (sign : Bool) (rest : List Item) (known : Bool) (text : List ℕ)
    → completes (with_pattern parts sign rest) (start false (with_pattern parts sign rest)) known text ≡ (not (refuses (End sign) known) && obeys rest text)
good_later [] sign rest known text = ap (λ v. not (refuses (End sign) v) && obeys rest text) (nothing_more known (is_end text))
good_later (any_characters ∷ parts) sign rest known text =
    good_later parts sign rest (known || (false && somewhere (fits (with_pattern parts sign rest)) text)) text
    ∙ ap (λ v. not (refuses (End sign) v) && obeys rest text) (nothing_more known (somewhere (fits (with_pattern parts sign rest)) text))
good_later (this_character c ∷ parts) sign rest known text =
    good_later parts sign rest (known || (false && behind c (fits (with_pattern parts sign rest)) text)) text
    ∙ ap (λ v. not (refuses (End sign) v) && obeys rest text) (nothing_more known (behind c (fits (with_pattern parts sign rest)) text))

obeys_first : (parts : List Part) (sign : Bool) (rest : List Item) (text : List ℕ)
    → obeys (with_pattern parts sign rest) text ≡ (not (refuses (End sign) (fits (with_pattern parts sign rest) text)) && obeys rest text)
obeys_first [] sign rest text = refl
obeys_first (any_characters ∷ parts) sign rest text = good_later parts sign rest (somewhere (fits (with_pattern parts sign rest)) text) text
obeys_first (this_character c ∷ parts) sign rest text = good_later parts sign rest (behind c (fits (with_pattern parts sign rest)) text) text

obeys_pattern : (parts : List Part) (sign : Bool) (rest : List Item) (text : List ℕ)
    → obeys (with_pattern parts sign rest) text ≡ (not (refuses (End sign) (is_match parts text)) && obeys rest text)
obeys_pattern parts sign rest text =
    obeys_first parts sign rest text ∙ ap (λ f. not (refuses (End sign) (f text)) && obeys rest text) (fits_pattern parts sign rest)

-- ---- all patterns

has_sign : (sign v : Bool) → not (refuses (End sign) v) ≡ true → v ≡ sign
has_sign true true h = refl
has_sign true false h = absurd cc
has_sign false true h = absurd cc
has_sign false false h = refl

sign_has : (sign v : Bool) → v ≡ sign → not (refuses (End sign) v) ≡ true
sign_has true true h = refl
sign_has true false h = absurd cc
sign_has false true h = absurd cc
sign_has false false h = refl

with_more : (parts : List Part) (sign : Bool) (rest more : List Item) → with_pattern parts sign rest ++ more ≡ with_pattern parts sign (rest ++ more)
with_more [] sign rest more = refl
with_more (part ∷ parts) sign rest more = ap (λ l. part_item part ∷ l) (with_more parts sign rest more)

-- one more pattern
pub items_more : (items now whole : List Item) (ps : List (List Part)) (i : ℕ) (p : List Part) (signs others : List Bool) (sign : Bool) → i < length ps → p ≡ get_or ps i p
    → signs ≡ sign ∷ others → now ≡ items ++ with_pattern p sign [] → items ++ items_of (drop i ps) signs ≡ whole → now ++ items_of (drop (i + 1) ps) others ≡ whole
items_more items now whole ps i p signs others sign within read first put so_far =
    let rest : List Item = items_of (drop (i + 1) ps) others in
    let at : drop i ps ≡ p ∷ drop (i + 1) ps = drop_more ps i p within ∙ ap (λ q. q ∷ drop (i + 1) ps) (sym read) in
    ap (λ l. l ++ rest) put ∙ append_assoc items (with_pattern p sign []) rest ∙ ap (λ l. items ++ l) (with_more p sign [] rest)
    ∙ sym (ap (λ l. items ++ items_of l signs) at ∙ ap (λ l. items ++ items_of (p ∷ drop (i + 1) ps) l) first) ∙ so_far

sign_of : (sign : Bool) (p : List Part) (text : List ℕ) → is_match p text ≡ sign → IsTrue sign ↔ IsMatch p text
sign_of sign p text e = (λ t. (is_match_decides p text).0 (e ∙ t), λ m. sym e ∙ (is_match_decides p text).1 m)

of_sign : (sign v : Bool) (p : List Part) (text : List ℕ) → is_match p text ≡ v → (IsTrue sign ↔ IsMatch p text) → v ≡ sign
of_sign true true p text e h = refl
of_sign true false p text e h = sym e ∙ (is_match_decides p text).1 (h.0 refl)
of_sign false true p text e h = sym (h.1 ((is_match_decides p text).0 e))
of_sign false false p text e h = refl

pub obeys_all : (ps : List (List Part)) (signs : List Bool) (text : List ℕ) → obeys (items_of ps signs) text ≡ true → Obeys ps signs text
obeys_all [] signs text h = tt
obeys_all (p ∷ ps) [] text h = tt
obeys_all (p ∷ ps) (sign ∷ signs) text h =
    let both = and_parts (not (refuses (End sign) (is_match p text))) (obeys (items_of ps signs) text) (sym (obeys_pattern p sign (items_of ps signs) text) ∙ h) in
    (sign_of sign p text (has_sign sign (is_match p text) both.0), obeys_all ps signs text both.1)

pub all_obey : (ps : List (List Part)) (signs : List Bool) (text : List ℕ) → Obeys ps signs text → obeys (items_of ps signs) text ≡ true
all_obey [] signs text o = refl
all_obey (p ∷ ps) [] text o = refl
all_obey (p ∷ ps) (sign ∷ signs) text o =
    obeys_pattern p sign (items_of ps signs) text
    ∙ and_from (not (refuses (End sign) (is_match p text))) (obeys (items_of ps signs) text) (sign_has sign (is_match p text) (of_sign sign (is_match p text) p text refl o.0)) (all_obey ps signs text o.1)

-- ---- the texts that were found

distinct_push : (words : List (List ℕ)) (word : List ℕ) → AreDistinct words → ¬ (Has words word) → AreDistinct (words ++ word ∷ [])
distinct_push [] word d h = ((λ k. k), tt)
distinct_push (w ∷ words) word d h =
    ((λ k. ⊎_elim (λ there. d.0 there) (λ is. h (inl (sym is))) (Has-push words word w k)), distinct_push words word d.1 (λ k. h (inr k)))

pub none_so_far : (ps : List (List Part)) (signs : List Bool) (words : List (List ℕ)) → words ≡ [] → AreSoFar ps signs words
none_so_far ps signs words none = subst (λ l. AreSoFar ps signs l) (sym none) (record {
  texts_are = λ text h. absurd h;
  obey = λ text h. absurd h;
  distinct = tt;
})

module _ (ps : List (List Part)) (signs : List Bool) (words : List (List ℕ)) (s : AreSoFar ps signs words) where
  pub one_more : (items : List Item) (word : List ℕ) (now : List (List ℕ)) → items ≡ items_of ps signs → IsFound items words word → now ≡ words ++ word ∷ [] → AreSoFar ps signs now
  one_more items word now same found is =
      subst (λ l. AreSoFar ps signs l) (sym is) (record {
        texts_are = λ text h. ⊎_elim (λ k. s.texts_are text k) (λ e. subst IsText e found.is_text) (Has-push words word text h);
        obey = λ text h.
            ⊎_elim (λ k. s.obey text k)
            (λ e. subst (Obeys ps signs) e (obeys_all ps signs word (ap (λ l. obeys l word) (sym same) ∙ found.obeyed))) (Has-push words word text h);
        distinct = distinct_push words word s.distinct found.other;
      })

  pub enough : (n : ℕ) → length words ≤ n → n ≤ length words → AreStrings ps signs n words
  enough n most least = record {
    texts_are = s.texts_are;
    obey = s.obey;
    distinct = s.distinct;
    at_most = most;
    all = λ fewer. absurd (omega (arith, fewer, least));
  }

  pub no_other : (items : List Item) (n : ℕ) → items ≡ items_of ps signs → length words ≤ n → ((text : List ℕ) → IsText text → obeys items text ≡ true → Has words text) → AreStrings ps signs n words
  no_other items n same most all = record {
    texts_are = s.texts_are;
    obey = s.obey;
    distinct = s.distinct;
    at_most = most;
    all = λ fewer text is o. all text is (ap (λ l. obeys l text) same ∙ all_obey ps signs text o);
  }
