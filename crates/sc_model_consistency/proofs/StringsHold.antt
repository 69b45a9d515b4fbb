-- Where no rule of strings is falsified at the patterns of a problem, the rules of strings hold at any patterns: a pattern that a closed term
-- asks is one of the problem's, and of strings that are written each rule holds anyway.
use Rattle.std.proofs.Common.{◌≡◌, ◌≤◌, ◌&&◌, ◌||◌, ◌⊎◌, ◌==◌, ℕ, Bool, true, false, not, inl, inr, List, [], ◌∷◌, map, length, slice_get, Option, Some, None, IsSome, Contains, refl, sym, ap, ◌∙◌, subst}
use Rattle.std.proofs.Math.Bool.{or-true}
use Rattle.std.proofs.lemmas.List.{length-map}
use Rattle.std.specs.List.{AllByRecursion, list_all}
use Rattle.sc_laws.proofs.BoolLaws.{and_second, never, not_not}
use Rattle.sc_lists.proofs.ListLaws.{all_weaker, all_element}
use Rattle.sc_lists.proofs.MemberLaws.{Contains-from_Has}
use Rattle.sc_laws.proofs.OptionLaws.{same_some}
use Rattle.sc_lists.specs.Members.{Has}
use Rattle.sc_languages.specs.Strings.{IsText}
use Rattle.sc_clauses.specs.Assignments.{Assignment, value_of, falsifies}
use Rattle.sc_clauses.specs.Clauses.{Clause}
use Rattle.sc_clauses.specs.declared.step.Instance.{Instance}
use Rattle.sc_sorts.specs.declared.sort.Sort.{Sort}
use Rattle.sc_sorts.specs.declared.sort.Sort.TheVariants as sort
use Rattle.sc_sorts.proofs.OutLaws.{out_Bool}
use Rattle.sc_sorts.specs.Literals.{literal_like}
use Rattle.sc_sorts.specs.declared.node.Leaf.TheVariants.{Literal}
use Rattle.sc_sorts.specs.declared.node.Literal.{Literal as AnyLiteral}
use Rattle.sc_sorts.specs.declared.node.Literal.TheVariants as literal
use Rattle.sc_sorts.specs.declared.node.UnaryOp.TheVariants.{Not, Like}
use Rattle.sc_terms.specs.Folds.{literal_term, literal_of, other_equal, not_term, equal_term, like_by, like_term}
use Rattle.sc_terms.specs.Order.{tree_eq}
use Rattle.sc_terms.specs.Trees.{Tree, leaf, one}
use Rattle.sc_terms.specs.TreeSorts.{tree_sort}
use Rattle.sc_terms.proofs.OrderLaws.{tree_eq-exact}
use Rattle.sc_term_laws.specs.Judging.{IsTermOf, IsTerm}
use Rattle.sc_term_laws.proofs.JudgingLaws.{sort_is}
use Rattle.sc_term_laws.proofs.MadeLaws.{equal_made}
use Rattle.sc_term_laws.proofs.TestLaws.{string_sort}
use Rattle.sc_footprint.specs.Atoms.{is_bool, is_bool_in}
use Rattle.sc_footprint.specs.Definitions.{defining}
use Rattle.sc_footprint.specs.Problems.{Posed, IsPosed, closed_terms, goal_term, atoms}
use Rattle.sc_footprint.specs.Theories.{TermsHold}
use Rattle.sc_footprint.proofs.KindLaws.{bool_is, negated_is}
use Rattle.sc_model_laws.specs.Assignments.{lit, holds_under, some_hold}
use Rattle.sc_rule_laws.specs.Signed.{Signed, so, unless, given}
use Rattle.sc_rule_laws.specs.Strings.{Pattern, Signs, HasSign, HasSigns, AreFew, st1_of, crowd}
use Rattle.sc_rule_laws.specs.Terms.{is_string}
use Rattle.sc_rule_laws.proofs.MemberLaws.{all_has}
use Rattle.sc_rule_instances.specs.Known.{is_falsified}
use Rattle.th_strings_instances.specs.Instances.{HasString, string_clause}
use Rattle.th_strings_instances.specs.Patterns.{patterns}
use Rattle.sc_model_values.specs.Laws.{IsClosed, AreClosed, StringsHold}
use Rattle.sc_model_values.specs.Models.{truth_in}
use Rattle.sc_model_values.proofs.WrittenStrings.{IsWritten, literal_at, literal_written, text_bool, written_crowd}
use Rattle.sc_model_consistency.proofs.CrowdLaws.{Asks, all_signs, sign_of, asks_value, sign_for, sign_asks, asks_sign, crowd_other, crowd_equal, crowd_all, equal_all}
use Rattle.sc_model_consistency.proofs.PatternLaws.{pattern_there, place_of}
use Rattle.sc_model_consistency.proofs.StringsFree.{match_free, crowd_free}
use Rattle.sc_model_consistency.proofs.TruthLaws.{untrue, one_holds, none_holds, which_holds, there, said_holds}

-- ---- terms of `like`

like_bool : (t : Tree) (q : Pattern) → is_bool (like_term t q) ≡ true
unfolding like_term tree_sort
like_bool t q = by (literal_of t)
  where
    by : (o : Option AnyLiteral) → is_bool (like_by o t q) ≡ true
    by (Some l) = ap is_bool_in out_Bool
    by None = ap is_bool_in out_Bool

like_one : (t : Tree) (q : Pattern) → literal_of t ≡ None → like_term t q ≡ one (Like q) t
unfolding like_term
like_one t q e = ap (λ (o : Option AnyLiteral). like_by o t q) e

-- ---- some of a few terms is no literal, or all are literals

abbrev IsLiteral : Tree → Type 0
IsLiteral t = (l : AnyLiteral) × (literal_of t ≡ Some l)

abbrev IsPlain : List Tree → Type 0
IsPlain ts = (t : Tree) × Has ts t × (literal_of t ≡ None)

one_more : (t : Tree) (ts : List Tree) → IsLiteral t → ((u : Tree) → Has ts u → IsLiteral u) → (u : Tree) → Has (t ∷ ts) u → IsLiteral u
one_more t ts h k u (inl e) = subst IsLiteral e h
one_more t ts h k u (inr i) = k u i

plain_or_literals : (ts : List Tree) → IsPlain ts ⊎ ((t : Tree) → Has ts t → IsLiteral t)
plain_or_literals [] = inr (λ t h. absurd h)
plain_or_literals (t ∷ ts) = by (literal_of t) refl (plain_or_literals ts)
  where
    by : (o : Option AnyLiteral) → literal_of t ≡ o → IsPlain ts ⊎ ((u : Tree) → Has ts u → IsLiteral u)
        → IsPlain (t ∷ ts) ⊎ ((u : Tree) → Has (t ∷ ts) u → IsLiteral u)
    by None e rest = inl (t, inl refl, e)
    by (Some l) e (inl h) = inl (h.0, inr h.1, h.2)
    by (Some l) e (inr h) = inr (one_more t ts (l, e) h)

-- ---- of a problem

module _ (laws : TermsHold) (p : Posed) (posed : IsPosed p) (m : Assignment) (total : (n : ℕ) → 1 ≤ n → n ≤ length (atoms p) → IsSome (value_of m n))
    (defined : (c : Clause) → Contains (defining p) c → falsifies m c ≡ false)
    (right : (i : Instance) → HasString p i → falsifies m (string_clause p i) ≡ false) where
  abbrev M : Tree → Bool
  M = truth_in p m

  among : (t : Tree) → IsClosed p t → Has (closed_terms p) t
  among = there laws p posed m total defined

  holds : (parts : List Signed) → ((s : Signed) → Has parts s → IsClosed p s.1 × (is_bool s.1 ≡ true)) → is_falsified p m (Some parts) ≡ false
      → some_hold M parts ≡ true
  holds = said_holds laws p posed m total defined

  term : (t : Tree) → IsClosed p t → IsTerm p.schema p.env p.literals t
  term t c = laws.closed p.schema p.env p.literals (goal_term p) t posed.lawful posed.goal_is c

  -- a pattern that a closed term asks of no literal is one of the problem's
  pattern_of : (t : Tree) (q : Pattern) → literal_of t ≡ None → IsClosed p (like_term t q) → Has (patterns p) q
  pattern_of t q e c = pattern_there p (one (Like q) t) q (among (one (Like q) t) (subst (IsClosed p) (like_one t q e) c)) refl

  -- ---- ST1

  abbrev match_parts : Tree → Tree → Pattern → List Signed
  match_parts a b q = unless (equal_term a b) ∷ unless (like_term a q) ∷ so (like_term b q) ∷ []

  negated_text : (x : List ℕ) → IsClosed p (one Not (literal_term (literal.String x))) → ⊥
  negated_text x c =
      let t = literal_term (literal.String x) in
      let inside = negated_is p.schema p.env p.literals t (tree_sort (one Not t)) (term (one Not t) c) in
      never ⊥ (sym (bool_is t (sort_is p.schema p.env p.literals sort.Bool t inside)) ∙ text_bool x)

  abbrev liked : Pattern → Tree → Bool
  liked q (leaf (Literal l)) = literal_like l q
  liked q _ = false

  apart : (a b : Tree) (q : Pattern) → liked q a ≡ true → liked q b ≡ false → lit M (other_equal (tree_eq a b) (Some false) a b) ≡ false
  unfolding lit
  apart a b q e f = by (tree_eq a b) refl
    where
      by : (same : Bool) → tree_eq a b ≡ same → lit M (other_equal same (Some false) a b) ≡ false
      by true g = never _ (sym e ∙ ap (liked q) (tree_eq-exact a b g) ∙ f)
      by false g = refl

  -- literals of which only the first matches aren't equal
  unlike : (k l : AnyLiteral) (q : Pattern) → literal_like k q ≡ true → literal_like l q ≡ false
      → IsClosed p (equal_term (literal_term k) (literal_term l)) → lit M (equal_term (literal_term k) (literal_term l)) ≡ false
  unfolding equal_term not_term
  unlike (literal.String x) (literal.Bool true) q e f c = untrue p m (literal_term (literal.String x)) (text_bool x)
  unlike (literal.String x) (literal.Bool false) q e f c = absurd (negated_text x c)
  unlike (literal.String x) l q e f c = apart (literal_term (literal.String x)) (literal_term l) q e f
  unlike _ l q e f c = never _ (sym e)

  literals_match : (k l : AnyLiteral) (q : Pattern) → IsClosed p (equal_term (literal_term k) (literal_term l))
      → some_hold M (match_parts (literal_term k) (literal_term l) q) ≡ true
  unfolding some_hold lit like_term
  literals_match k l q c = by (literal_like k q) (literal_like l q) refl refl
    where
      by : (x y : Bool) → literal_like k q ≡ x → literal_like l q ≡ y
          → (not (lit M (equal_term (literal_term k) (literal_term l))) || (not x || (y || false))) ≡ true
      by false y e f = or-true (not (lit M (equal_term (literal_term k) (literal_term l))))
      by true true e f = or-true (not (lit M (equal_term (literal_term k) (literal_term l))))
      by true false e f = ap (λ (z : Bool). not z || false) (unlike k l q e f c)

  pattern_match : (a b : Tree) (q : Pattern) → IsClosed p a → IsClosed p b → AreClosed p (match_parts a b q) → Has (patterns p) q
      → some_hold M (match_parts a b q) ≡ true
  pattern_match a b q c k all h = by (is_bool (equal_term a b)) refl
    where
      of : is_bool (equal_term a b) ≡ true → (s : Signed) → Has (match_parts a b q) s → IsClosed p s.1 × (is_bool s.1 ≡ true)
      of e s i =
          all_element (λ (s : Signed). IsClosed p s.1 × (is_bool s.1 ≡ true)) (match_parts a b q) s
          ((all.0, e), ((all.1.0, like_bool a q), ((all.1.1.0, like_bool b q), tt))) (Contains-from_Has (match_parts a b q) s i)

      by : (b1 : Bool) → is_bool (equal_term a b) ≡ b1 → some_hold M (match_parts a b q) ≡ true
      by true e =
          let place = place_of (patterns p) q h in
          holds (match_parts a b q) (of e) (match_free p posed m right a b place.0 q (among a c) (among b k) place.1)
      by false e = one_holds M (match_parts a b q) (unless (equal_term a b)) (inl refl) (ap not (untrue p m (equal_term a b) e))

  match_holds : (a b : Tree) (q : Pattern) → IsClosed p a → IsClosed p b → AreClosed p (match_parts a b q) → some_hold M (match_parts a b q) ≡ true
  match_holds a b q c k all = by (literal_of a) (literal_of b) refl refl
    where
      by : (o r : Option AnyLiteral) → literal_of a ≡ o → literal_of b ≡ r → some_hold M (match_parts a b q) ≡ true
      by None r e f = pattern_match a b q c k all (pattern_of a q e all.1.0)
      by (Some l) None e f = pattern_match a b q c k all (pattern_of b q f all.1.1.0)
      by (Some l) (Some n) e f =
          let first = literal_at a l e in
          let second = literal_at b n f in
          let closed : IsClosed p (equal_term (literal_term l) (literal_term n)) =
          subst (λ (z : Tree). IsClosed p (equal_term (literal_term l) z)) second (subst (λ (z : Tree). IsClosed p (equal_term z b)) first all.0) in
          ap (λ (z : Tree). some_hold M (match_parts z b q)) first ∙ ap (λ (z : Tree). some_hold M (match_parts (literal_term l) z q)) second
          ∙ literals_match l n q closed

  match_at : (a b : Tree) (o : Option Pattern) (parts : List Signed) → IsClosed p a → IsClosed p b → st1_of a b o ≡ Some parts → AreClosed p parts
      → some_hold M parts ≡ true
  match_at a b None parts c k e all = absurd cc
  match_at a b (Some q) parts c k e all =
      let same = same_some e in
      subst (λ (ps : List Signed). some_hold M ps ≡ true) same (match_holds a b q c k (subst (AreClosed p) (sym same) all))

  -- ---- ST3

  of_string : (t : Tree) → IsClosed p t → is_string t ≡ true → IsTermOf p.schema p.env p.literals sort.String t
  of_string t c e = subst (λ (k : Sort). IsTermOf p.schema p.env p.literals k t) (string_sort (tree_sort t) e) (term t c)

  equal_bool : (t u : Tree) → IsClosed p t → IsClosed p u → is_string t ≡ true → is_string u ≡ true → is_bool (equal_term t u) ≡ true
  equal_bool t u c k e f =
      let made = equal_made p.schema p.env p.literals sort.String t u (of_string t c e) (of_string u k f) in
      bool_is (equal_term t u) (sort_is p.schema p.env p.literals sort.Bool (equal_term t u) made)

  -- where a part with the other sign doesn't hold, the term has this one
  sign_told : (x : Tree) (s : Bool) → holds_under M (not s, x) ≡ false → lit M x ≡ s
  sign_told x true e = sym (not_not (lit M x)) ∙ ap not e
  sign_told x false e = e

  module _ (qs : List Pattern) (v : Signs) (ts : List Tree) (closed : (t : Tree) → Has ts t → IsClosed p t) (strings : list_all is_string ts ≡ true)
      (few : AreFew qs v (length ts)) (all : (s : Signed) → Has (crowd qs v ts) s → IsClosed p s.1) where
    -- the problem's patterns have the signs that these ask of them
    abbrev signs : Signs
    signs = map (sign_for qs v) (patterns p)

    within : (s : Signed) → Has (crowd (patterns p) signs ts) s → Has (crowd qs v ts) s
    within =
        crowd_all (λ (s : Signed). Has (crowd qs v ts) s) (patterns p) signs ts
        (λ t r s i h. crowd_other qs v ts t r s i (sign_asks qs v r s (asks_value (sign_for qs v) (patterns p) r s h))) (crowd_equal qs v ts)

    bools : (s : Signed) → Has (crowd qs v ts) s → is_bool s.1 ≡ true
    bools =
        crowd_all (λ (s : Signed). is_bool s.1 ≡ true) qs v ts (λ t q s i h. like_bool t q)
        (equal_all (λ (s : Signed). is_bool s.1 ≡ true) ts
        (λ t u i j. equal_bool t u (closed t i) (closed u j) (all_has is_string ts t strings i) (all_has is_string ts u strings j)))

    module _ (t : Tree) (i : Has ts t) (plain : literal_of t ≡ None) (none : some_hold M (crowd qs v ts) ≡ false) where
      told : (q : Pattern) (s : Bool) → Asks qs v q s → lit M (like_term t q) ≡ s
      told q s h = sign_told (like_term t q) s (none_holds M (crowd qs v ts) (not s, like_term t q) none (crowd_other qs v ts t q s i h))

      has_signs : (text : List ℕ) → HasSigns (patterns p) signs text → HasSigns qs v text
      has_signs text h = all_signs qs v text each
        where
          each : (q : Pattern) (s : Bool) → Asks qs v q s → HasSign q (Some s) text
          each q s k =
              let z = asks_sign qs v q s k in
              let same : z.0 ≡ s = sym (told q z.0 (sign_asks qs v q z.0 z.1)) ∙ told q s k in
              let listed = pattern_of t q plain (all (not s, like_term t q) (crowd_other qs v ts t q s i k)) in
              subst (λ (o : Option Bool). HasSign q o text) (z.1 ∙ ap Some same) (sign_of (sign_for qs v) (patterns p) q text h listed)

      few_signs : AreFew (patterns p) signs (length ts)
      unfolding AreFew
      few_signs texts distinct fit =
          few texts distinct
          (all_weaker (λ text. IsText text × HasSigns (patterns p) signs text) (λ text. IsText text × HasSigns qs v text)
          (λ text f. (f.0, has_signs text f.1)) texts fit)

      pub plain_crowd : ⊥
      plain_crowd =
          let free = crowd_free p posed m right signs ts (λ u j. among u (closed u j)) (length-map (patterns p) (sign_for qs v)) strings few_signs in
          let found = which_holds M (crowd (patterns p) signs ts)
          (holds (crowd (patterns p) signs ts) (λ s j. (all s (within s j), bools s (within s j))) free) in
          never ⊥ (sym found.2 ∙ none_holds M (crowd qs v ts) found.0 none (within found.0 found.1))

  crowd_holds : (qs : List Pattern) (v : Signs) (ts : List Tree) → AllByRecursion (IsClosed p) ts → AreFew qs v (length ts)
      → ((length v == length qs) && list_all is_string ts) ≡ true → AreClosed p (crowd qs v ts) → some_hold M (crowd qs v ts) ≡ true
  crowd_holds qs v ts terms few test parts = by (plain_or_literals ts)
    where
      strings : list_all is_string ts ≡ true
      strings = and_second (length v == length qs) (list_all is_string ts) test

      closed : (t : Tree) → Has ts t → IsClosed p t
      closed t i = all_element (IsClosed p) ts t terms (Contains-from_Has ts t i)

      all : (s : Signed) → Has (crowd qs v ts) s → IsClosed p s.1
      all s i = all_element (λ (s : Signed). IsClosed p s.1) (crowd qs v ts) s parts (Contains-from_Has (crowd qs v ts) s i)

      written : (t : Tree) → Has ts t → IsLiteral t → IsWritten t
      written t i h =
          subst (λ (z : Tree). IsTerm p.schema p.env p.literals z → is_string z ≡ true → IsWritten z) (sym (literal_at t h.0 h.1))
          (literal_written p.schema p.env p.literals h.0) (term t (closed t i)) (all_has is_string ts t strings i)

      told : IsPlain ts → (b : Bool) → some_hold M (crowd qs v ts) ≡ b → b ≡ true
      told h true e = refl
      told h false e = absurd (plain_crowd qs v ts closed strings few all h.0 h.1 h.2 e)

      by : IsPlain ts ⊎ ((t : Tree) → Has ts t → IsLiteral t) → some_hold M (crowd qs v ts) ≡ true
      by (inl h) = told h (some_hold M (crowd qs v ts)) refl
      by (inr h) = written_crowd M qs v ts (λ t i. written t i (h t i)) test few

  crowd_at : (qs : List Pattern) (v : Signs) (ts : List Tree) (parts : List Signed) → AllByRecursion (IsClosed p) ts → AreFew qs v (length ts)
      → (b : Bool) → ((length v == length qs) && list_all is_string ts) ≡ b → given b (crowd qs v ts) ≡ Some parts → AreClosed p parts
      → some_hold M parts ≡ true
  crowd_at qs v ts parts terms few false test e all = absurd cc
  crowd_at qs v ts parts terms few true test e all =
      let same = same_some e in
      subst (λ (ps : List Signed). some_hold M ps ≡ true) same (crowd_holds qs v ts terms few test (subst (AreClosed p) (sym same) all))

  pub strings_hold : StringsHold p m
  strings_hold = record {
    st1 = λ qs a b i parts c k e all. match_at a b (slice_get qs i) parts c k e all;
    st3 = λ qs v ts parts terms few e all. crowd_at qs v ts parts terms few ((length v == length qs) && list_all is_string ts) refl e all;
  }
