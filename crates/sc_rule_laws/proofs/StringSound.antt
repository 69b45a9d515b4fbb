-- The rules of strings are true in every world in which strings are texts.
use Rattle.std.proofs.Common.{◌≡◌, ◌↔◌, ◌||◌, ◌==◌, ◌<◌, ℕ, suc, Bool, true, false, inl, inr, List, [], ◌∷◌, ◌++◌, map, length, slice_get, Option, Some, None, IsTrue, refl, sym, ap, ◌∙◌, subst, arith, if◌then◌else◌, ◌&&◌}
use Rattle.std.proofs.lemmas.Str.{encodes-chars}
use Rattle.std.proofs.lemmas.Bool.{and_parts}
use Rattle.std.specs.List.{AllByRecursion, flat_map, list_all}
use Rattle.std.specs.Str.{IsUtf8, chars, encode_utf8_all}
use Rattle.sc_lists.specs.Members.{Has}
use Rattle.sc_laws.proofs.BoolLaws.{or_first, or_second, not_false, never}
use Rattle.sc_languages.specs.Strings.{IsText, AreDistinct}
use Rattle.sc_languages.proofs.TextLaws.{text_chars}
use Rattle.sc_pattern.specs.Language.{is_match}
use Rattle.sc_pattern.proofs.TestLaws.{is_match_decides}
use Rattle.sc_values.specs.declared.value.Value.{Value, Value-F}
use Rattle.sc_values.specs.declared.value.Value.TheVariants as value
use Rattle.sc_values.proofs.OutLaws.{out_String}
use Rattle.sc_world.specs.declared.world.World.{World}
use Rattle.sc_terms.specs.Trees.{Tree}
use Rattle.sc_terms.specs.Folds.{equal_term, like_term}
use Rattle.sc_terms.specs.Values.{Val, it, val, level, like_seen}
use Rattle.sc_rule_laws.specs.Signed.{Signed, so, unless, some_holds, Holds, is_true}
use Rattle.sc_rule_laws.specs.Terms.{is_string}
use Rattle.sc_rule_laws.specs.Strings.{Pattern, Signs, st1_of, st1, HasSign, HasSigns, AreFew, other_sign, other_signs, some_equal, crowd, st3, is_asked_all, st2}
use Rattle.sc_rule_laws.proofs.ClauseLaws.{unless_else, so_holds, given_holds}
use Rattle.sc_rule_laws.proofs.SortValues.{IsAString}
use Rattle.sc_rule_laws.proofs.EquationLaws.{is_equal, equal_so}
use Rattle.sc_rule_laws.proofs.MemberTruths.{like_truth}

-- of bytes that are texts the characters tell which they are
chars_tell : (a b : List ℕ) → IsUtf8 a → IsUtf8 b → chars a ≡ chars b → a ≡ b
chars_tell a b h k e = sym (encodes-chars a h) ∙ ap encode_utf8_all e ∙ encodes-chars b k

module _ (w : World) where
  -- none of two lists holds
  none_first : (xs ys : List Signed) → some_holds w (xs ++ ys) ≡ false → some_holds w xs ≡ false
  unfolding some_holds
  none_first [] ys e = refl
  none_first (x ∷ xs) ys e = neither _ _ (or_first _ _ e) (none_first xs ys (or_second _ _ e)) where
    neither : (a b : Bool) → a ≡ false → b ≡ false → (a || b) ≡ false
    neither true b e f = absurd cc
    neither false b e f = f

  none_second : (xs ys : List Signed) → some_holds w (xs ++ ys) ≡ false → some_holds w ys ≡ false
  unfolding some_holds
  none_second [] ys e = e
  none_second (x ∷ xs) ys e = none_second xs ys (or_second _ _ e)

  none_of : (f : Tree → List Signed) (ts : List Tree) → some_holds w (flat_map f ts) ≡ false → (t : Tree) → Has ts t → some_holds w (f t) ≡ false
  none_of f [] e t h = absurd h
  none_of f (u ∷ ts) e t h = elim h [
    | inl is ↦ ap (λ z. some_holds w (f z)) (sym is) ∙ none_first (f u) (flat_map f ts) e
    | inr later ↦ none_of f ts (none_second (f u) (flat_map f ts) e) t later
  ]

  none_so : (f : Tree → Tree) (ts : List Tree) → some_holds w (map (λ u. so (f u)) ts) ≡ false → (t : Tree) → Has ts t → is_true (f t) w ≡ false
  unfolding some_holds
  none_so f [] e t h = absurd h
  none_so f (u ∷ ts) e t h = elim h [
    | inl is ↦ ap (λ z. is_true (f z) w) (sym is) ∙ or_first _ _ e
    | inr later ↦ none_so f ts (or_second _ _ e) t later
  ]

  so_alone : (t : Tree) → some_holds w (so t ∷ []) ≡ false → is_true t w ≡ false
  unfolding some_holds
  so_alone t e = or_first _ _ e

  unless_alone : (t : Tree) → some_holds w (unless t ∷ []) ≡ false → is_true t w ≡ true
  unfolding some_holds
  unless_alone t e = not_false _ (or_first _ _ e)

  -- ---- ST1

  st1_at : (a b : Tree) (o : Option Pattern) → Holds w (st1_of a b o)
  st1_at a b None = tt
  st1_at a b (Some q) =
      unless_else w (equal_term a b) _ (λ e. unless_else w (like_term a q) _ (λ f. so_holds w (like_term b q) []
      (like_truth w b q ∙ ap (λ (x : Val). like_seen (level x) q) (sym (is_equal w a b e)) ∙ sym (like_truth w a q) ∙ f)))

  pub st1_holds : (qs : List Pattern) (a b : Tree) (i : ℕ) → Holds w (st1 qs a b i)
  st1_holds qs a b i = st1_at a b (slice_get qs i)

  -- ---- ST2, ST3

  like_match : (t : Tree) (q : Pattern) (h : IsAString (val t w)) → is_true (like_term t q) w ≡ is_match q (chars h.bytes)
  like_match t q h = like_truth w t q ∙ ap (λ (x : Val). like_seen (level x) q) h.is ∙ ap (λ (x : Value-F Value). like_seen x q) (out_String h.bytes)

  told_true : (b : Bool) (P : Type 0) → (IsTrue b ↔ P) → b ≡ true → IsTrue true ↔ P
  told_true b P h e = subst (λ (c : Bool). IsTrue c ↔ P) e h

  told_false : (b : Bool) (P : Type 0) → (IsTrue b ↔ P) → b ≡ false → IsTrue false ↔ P
  told_false b P h e = subst (λ (c : Bool). IsTrue c ↔ P) e h

  has_sign : (t : Tree) (q : Pattern) (sign : Option Bool) (h : IsAString (val t w)) → some_holds w (other_sign t q sign) ≡ false → HasSign q sign (chars h.bytes)
  has_sign t q None h e = tt
  has_sign t q (Some true) h e = told_true _ _ (is_match_decides q (chars h.bytes)) (sym (like_match t q h) ∙ unless_alone (like_term t q) e)
  has_sign t q (Some false) h e = told_false _ _ (is_match_decides q (chars h.bytes)) (sym (like_match t q h) ∙ so_alone (like_term t q) e)

  has_signs : (qs : List Pattern) (v : Signs) (t : Tree) (h : IsAString (val t w)) → some_holds w (other_signs qs v t) ≡ false → HasSigns qs v (chars h.bytes)
  unfolding HasSigns
  has_signs [] v t h e = tt
  has_signs (q ∷ qs) [] t h e = tt
  has_signs (q ∷ qs) (sign ∷ v) t h e =
      (has_sign t q sign h (none_first (other_sign t q sign) (other_signs qs v t) e), has_signs qs v t h (none_second (other_sign t q sign) (other_signs qs v t) e))

  abbrev pub AreStrings : List Tree → Type 0
  AreStrings ts = (t : Tree) → Has ts t → IsAString (val t w)

  later : (t : Tree) (ts : List Tree) → AreStrings (t ∷ ts) → AreStrings ts
  later t ts all u h = all u (inr h)

  abbrev texts : (ts : List Tree) → AreStrings ts → List (List ℕ)
  texts [] all = []
  texts (t ∷ ts) all = chars (all t (inl refl)).bytes ∷ texts ts (later t ts all)

  texts_length : (ts : List Tree) (all : AreStrings ts) → length (texts ts all) ≡ length ts
  texts_length [] all = refl
  texts_length (t ∷ ts) all = ap suc (texts_length ts (later t ts all))

  -- a text among them is that of some string
  text_of : (ts : List Tree) (all : AreStrings ts) (text : List ℕ) → Has (texts ts all) text → (t : Tree) × Has ts t × (h : IsAString (val t w)) × (chars h.bytes ≡ text)
  text_of [] all text h = absurd h
  text_of (t ∷ ts) all text h = elim h [
    | inl is ↦ (t, inl refl, all t (inl refl), is)
    | inr more ↦ (let (u, k, s, e) = text_of ts (later t ts all) text more in (u, inr k, s, e))
  ]

  same_text : (t u : Tree) (h : IsAString (val t w)) (k : IsAString (val u w)) → chars h.bytes ≡ chars k.bytes → is_true (equal_term t u) w ≡ true
  same_text t u h k e = equal_so w t u (h.is ∙ ap (λ bs. it (value.String bs)) (chars_tell h.bytes k.bytes h.text k.text e) ∙ sym k.is)

  texts_distinct : (ts : List Tree) (all : AreStrings ts) → some_holds w (some_equal ts) ≡ false → AreDistinct (texts ts all)
  texts_distinct [] all e = tt
  texts_distinct (t ∷ ts) all e = (
    λ h.
        let (u, k, s, f) = text_of ts (later t ts all) (chars (all t (inl refl)).bytes) h in
        never ⊥ (sym (same_text t u (all t (inl refl)) s (sym f)) ∙ none_so (equal_term t) ts (none_first (map (λ z. so (equal_term t z)) ts) (some_equal ts) e) u k),
    texts_distinct ts (later t ts all) (none_second (map (λ z. so (equal_term t z)) ts) (some_equal ts) e),
  )

  texts_fit : (qs : List Pattern) (v : Signs) (ts : List Tree) (all : AreStrings ts) → ((t : Tree) → Has ts t → some_holds w (other_signs qs v t) ≡ false)
      → AllByRecursion (λ text. IsText text × HasSigns qs v text) (texts ts all)
  texts_fit qs v [] all e = tt
  texts_fit qs v (t ∷ ts) all e =
      let h = all t (inl refl) in
      ((text_chars h.bytes h.text, has_signs qs v t h (e t (inl refl))), texts_fit qs v ts (later t ts all) (λ u k. e u (inr k)))

  -- that many strings can't all be told apart
  crowd_holds : (qs : List Pattern) (v : Signs) (ts : List Tree) → AreStrings ts → AreFew qs v (length ts) → some_holds w (crowd qs v ts) ≡ true
  unfolding AreFew
  crowd_holds qs v ts all few = by (some_holds w (crowd qs v ts)) refl
    where
      by : (b : Bool) → some_holds w (crowd qs v ts) ≡ b → some_holds w (crowd qs v ts) ≡ true
      by true e = e
      by false e =
          let signs = none_first (flat_map (other_signs qs v) ts) (some_equal ts) e in
          let equal = none_second (flat_map (other_signs qs v) ts) (some_equal ts) e in
          let fewer : length (texts ts all) < length ts = few (texts ts all) (texts_distinct ts all equal) (texts_fit qs v ts all (none_of (other_signs qs v) ts signs)) in
          let size = texts_length ts all in
          absurd (omega arith)

  pub st3_holds : (qs : List Pattern) (v : Signs) (ts : List Tree) → (list_all is_string ts ≡ true → AreStrings ts) → AreFew qs v (length ts) → Holds w (st3 qs v ts)
  st3_holds qs v ts all few = given_holds w ((length v == length qs) && list_all is_string ts) (crowd qs v ts) (λ t. crowd_holds qs v ts (all (and_parts (length v == length qs) (list_all is_string ts) t).1) few)

  pub st2_holds : (qs : List Pattern) (v : Signs) (ts : List Tree) → (list_all is_string ts ≡ true → AreStrings ts) → AreFew qs v (length ts) → Holds w (st2 qs v ts)
  st2_holds qs v ts all few = by (is_asked_all v)
    where
      by : (b : Bool) → Holds w (if b then st3 qs v ts else None)
      by true = st3_holds qs v ts all few
      by false = tt
