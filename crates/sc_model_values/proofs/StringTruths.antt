-- Where no closed term is a pattern's, the rules of strings hold: what they speak of is written, or they ask for no pattern,
-- and there are as many texts as one likes.
use Rattle.std.proofs.Common.{◌≡◌, ◌<◌, ◌||◌, ◌&&◌, ◌==◌, ℕ, zero, suc, Bool, true, false, not, inl, inr, List, [], ◌∷◌, flat_map, length, slice_get, Option, Some, None, refl, sym, ap, ◌∙◌, subst, arith}
use Rattle.std.specs.List.{AllByRecursion, list_all}
use Rattle.sc_laws.proofs.BoolLaws.{and_first, and_second, never}
use Rattle.sc_lists.proofs.ListLaws.{all_element}
use Rattle.sc_lists.proofs.MemberLaws.{Has-left, Has-flat_map, Contains-from_Has}
use Rattle.sc_laws.proofs.OptionLaws.{same_some}
use Rattle.sc_lists.specs.Members.{Has}
use Rattle.sc_languages.specs.Strings.{IsText, AreDistinct}
use Rattle.sc_clauses.specs.Assignments.{Assignment}
use Rattle.sc_sorts.specs.declared.sort.Sort.TheVariants as sort
use Rattle.sc_sorts.specs.declared.node.Leaf.TheVariants.{Literal}
use Rattle.sc_sorts.specs.declared.node.Literal.{Literal as AnyLiteral}
use Rattle.sc_sorts.specs.declared.node.Literal.TheVariants as literal
use Rattle.sc_sorts.specs.declared.node.UnaryOp.TheVariants.{Not, Like}
use Rattle.sc_sorts.specs.Literals.{literal_like}
use Rattle.sc_terms.specs.Trees.{Tree, leaf, one}
use Rattle.sc_terms.specs.TreeSorts.{tree_sort}
use Rattle.sc_terms.specs.Order.{tree_eq}
use Rattle.sc_terms.specs.Folds.{literal_term, literal_of, other_equal, not_term, equal_term, like_by, like_term}
use Rattle.sc_terms.proofs.OrderLaws.{tree_eq-exact}
use Rattle.sc_term_laws.specs.Judging.{IsTerm}
use Rattle.sc_term_laws.proofs.JudgingLaws.{sort_is}
use Rattle.sc_footprint.specs.Atoms.{is_atom}
use Rattle.sc_footprint.specs.Problems.{Posed, IsPosed, closed_terms, goal_term, atoms}
use Rattle.sc_footprint.specs.Theories.{TermsHold}
use Rattle.sc_footprint.proofs.KindLaws.{bool_is, negated_is}
use Rattle.sc_rule_instances.proofs.LiteralLaws.{number_none}
use Rattle.sc_rule_laws.specs.Signed.{Signed, so, unless, given}
use Rattle.sc_rule_laws.specs.Terms.{is_string}
use Rattle.sc_rule_laws.specs.Strings.{Pattern, Signs, HasSigns, AreFew, st1_of, other_signs, some_equal, crowd}
use Rattle.sc_rule_laws.proofs.MemberLaws.{all_has, filter_passes}
use Rattle.sc_model_laws.specs.Assignments.{lit, some_hold}
use Rattle.sc_model_laws.specs.Names.{zeros}
use Rattle.sc_model_laws.proofs.ClassLaws.{length_zeros}
use Rattle.sc_model_values.specs.Models.{truth_in, without_atom}
use Rattle.sc_model_values.specs.Laws.{IsClosed, AreClosed, StringsHold}
use Rattle.sc_model_values.proofs.WrittenStrings.{IsWritten, literal_at, text_bool, literal_written, written_crowd}

or_true : (b : Bool) → (b || true) ≡ true
or_true true = refl
or_true false = refl

-- ---- texts, as many as one likes

abbrev texts : ℕ → List (List ℕ)
texts zero = []
texts (suc n) = zeros n ∷ texts n

texts_length : (n : ℕ) → length (texts n) ≡ n
texts_length zero = refl
texts_length (suc n) = ap suc (texts_length n)

zeros_text : (n : ℕ) → IsText (zeros n)
unfolding zeros
zeros_text zero = tt
zeros_text (suc n) = (refl, zeros_text n)

texts_short : (n : ℕ) (text : List ℕ) → Has (texts n) text → length text < n
texts_short zero text h = absurd h
texts_short (suc n) text (inl e) = let long : length text ≡ n = ap (λ (t : List ℕ). length t) (sym e) ∙ length_zeros n in omega (arith, long)
texts_short (suc n) text (inr h) = omega (arith, texts_short n text h)

texts_distinct : (n : ℕ) → AreDistinct (texts n)
texts_distinct zero = tt
texts_distinct (suc n) = (λ h. omega (arith, texts_short n (zeros n) h, length_zeros n), texts_distinct n)

texts_fit : (qs : List Pattern) (v : Signs) → ((text : List ℕ) → HasSigns qs v text) → (n : ℕ) → AllByRecursion (λ text. IsText text × HasSigns qs v text) (texts n)
texts_fit qs v signs zero = tt
texts_fit qs v signs (suc n) = ((zeros_text n, signs (zeros n)), texts_fit qs v signs n)

-- where each text has the signs, there are no few
not_few : (qs : List Pattern) (v : Signs) (n : ℕ) → ((text : List ℕ) → HasSigns qs v text) → AreFew qs v n → ⊥
unfolding AreFew
not_few qs v n signs few = omega (arith, few (texts n) (texts_distinct n) (texts_fit qs v signs n), texts_length n)

-- ---- patterns that are asked

abbrev asked : List Pattern → Signs → Option Pattern
asked [] v = None
asked (q ∷ qs) [] = None
asked (q ∷ qs) (None ∷ v) = asked qs v
asked (q ∷ qs) (Some sign ∷ v) = Some q

none_asked : (qs : List Pattern) (v : Signs) → asked qs v ≡ None → (text : List ℕ) → HasSigns qs v text
unfolding HasSigns
none_asked [] v e text = tt
none_asked (q ∷ qs) [] e text = tt
none_asked (q ∷ qs) (None ∷ v) e text = (tt, none_asked qs v e text)
none_asked (q ∷ qs) (Some sign ∷ v) e text = absurd cc

asked_there : (qs : List Pattern) (v : Signs) (q : Pattern) (t : Tree) → asked qs v ≡ Some q → (b : Bool) × Has (other_signs qs v t) (b, like_term t q)
asked_there [] v q t e = absurd cc
asked_there (r ∷ qs) [] q t e = absurd cc
asked_there (r ∷ qs) (None ∷ v) q t e = asked_there qs v q t e
asked_there (r ∷ qs) (Some true ∷ v) q t e = (false, inl (ap (λ (z : Pattern). (false, like_term t z)) (same_some e)))
asked_there (r ∷ qs) (Some false ∷ v) q t e = (true, inl (ap (λ (z : Pattern). (true, like_term t z)) (same_some e)))

-- ---- of a problem

module _ (laws : TermsHold) (p : Posed) (posed : IsPosed p) (m : Assignment) (none : (q : Pattern) (t : Tree) → ¬ IsClosed p (one (Like q) t)) where
  abbrev M : Tree → Bool
  M = truth_in p m

  term : (t : Tree) → IsClosed p t → IsTerm p.schema p.env p.literals t
  term t c = laws.closed p.schema p.env p.literals (goal_term p) t posed.lawful posed.goal_is c

  -- whether a term is like a pattern is closed of literals alone
  literal_is : (t : Tree) (q : Pattern) → IsClosed p (like_term t q) → (l : AnyLiteral) × (t ≡ literal_term l)
  unfolding like_term
  literal_is t q c = by (literal_of t) refl c
    where
      by : (o : Option AnyLiteral) → literal_of t ≡ o → IsClosed p (like_by o t q) → (l : AnyLiteral) × (t ≡ literal_term l)
      by (Some l) e c = (l, literal_at t l e)
      by None e c = absurd (none q t c)

  -- ---- ST1

  untrue_text : (x : List ℕ) → truth_in p m (literal_term (literal.String x)) ≡ false
  untrue_text x = without_atom p m (literal_term (literal.String x)) (number_none (atoms p) (literal_term (literal.String x)) no_atom)
    where
      no_atom : ¬ Has (atoms p) (literal_term (literal.String x))
      no_atom h = never ⊥ (sym (and_first _ _ (filter_passes is_atom (closed_terms p) (literal_term (literal.String x)) h)) ∙ text_bool x)

  negated_text : (x : List ℕ) → IsClosed p (one Not (literal_term (literal.String x))) → ⊥
  negated_text x c =
      let inside = negated_is p.schema p.env p.literals (literal_term (literal.String x)) (tree_sort (one Not (literal_term (literal.String x)))) (term (one Not (literal_term (literal.String x))) c) in
      let e = sort_is p.schema p.env p.literals sort.Bool (literal_term (literal.String x)) inside in
      never ⊥ (sym (bool_is (literal_term (literal.String x)) e) ∙ text_bool x)

  -- whether the literal that a term is matches
  abbrev liked : Pattern → Tree → Bool
  liked q (leaf (Literal l)) = literal_like l q
  liked q _ = false

  apart : (a b : Tree) (q : Pattern) → liked q a ≡ true → liked q b ≡ false → lit M (other_equal (tree_eq a b) (Some false) a b) ≡ false
  unfolding lit
  apart a b q e f = by (tree_eq a b) refl
    where
      by : (same : Bool) → tree_eq a b ≡ same → lit M (other_equal same (Some false) a b) ≡ false
      by true g = never _ (sym e ∙ ap (liked q) (tree_eq-exact a b g) ∙ f)
      by false g = refl

  -- literals of which only one matches aren't equal
  unlike : (k l : AnyLiteral) (q : Pattern) → literal_like k q ≡ true → literal_like l q ≡ false → IsClosed p (equal_term (literal_term k) (literal_term l))
      → lit M (equal_term (literal_term k) (literal_term l)) ≡ false
  unfolding equal_term not_term lit
  unlike (literal.String x) (literal.Bool true) q e f c = untrue_text x
  unlike (literal.String x) (literal.Bool false) q e f c = absurd (negated_text x c)
  unlike (literal.String x) l q e f c = apart (literal_term (literal.String x)) (literal_term l) q e f
  unlike _ l q e f c = never _ (sym e)

  literals_hold : (k l : AnyLiteral) (q : Pattern) → IsClosed p (equal_term (literal_term k) (literal_term l))
      → some_hold M (unless (equal_term (literal_term k) (literal_term l)) ∷ unless (like_term (literal_term k) q)
      ∷ so (like_term (literal_term l) q) ∷ []) ≡ true
  unfolding some_hold lit like_term
  literals_hold k l q c = by (literal_like k q) (literal_like l q) refl refl
    where
      by : (x y : Bool) → literal_like k q ≡ x → literal_like l q ≡ y
          → (not (lit M (equal_term (literal_term k) (literal_term l))) || (not x || (y || false))) ≡ true
      by false y e f = or_true (not (lit M (equal_term (literal_term k) (literal_term l))))
      by true true e f = or_true (not (lit M (equal_term (literal_term k) (literal_term l))))
      by true false e f = ap (λ (z : Bool). not z || false) (unlike k l q e f c)

  st1_at : (a b : Tree) (o : Option Pattern) (parts : List Signed) → st1_of a b o ≡ Some parts → AreClosed p parts → some_hold M parts ≡ true
  st1_at a b None parts e all = absurd cc
  st1_at a b (Some q) parts e all =
      let same = same_some e in
      let closed : AreClosed p (unless (equal_term a b) ∷ unless (like_term a q) ∷ so (like_term b q) ∷ []) = subst (AreClosed p) (sym same) all in
      subst (λ (ps : List Signed). some_hold M ps ≡ true) same
      (by (literal_is a q closed.1.0) (literal_is b q closed.1.1.0) closed.0)
    where
      by : ((k : AnyLiteral) × (a ≡ literal_term k)) → ((l : AnyLiteral) × (b ≡ literal_term l)) → IsClosed p (equal_term a b)
          → some_hold M (unless (equal_term a b) ∷ unless (like_term a q) ∷ so (like_term b q) ∷ []) ≡ true
      by (k, f) (l, g) c =
          subst (λ (z : Tree). IsClosed p (equal_term z b) → some_hold M (unless (equal_term z b) ∷ unless (like_term z q) ∷ so (like_term b q) ∷ []) ≡ true) (sym f)
          (subst (λ (z : Tree). IsClosed p (equal_term (literal_term k) z) → some_hold M (unless (equal_term (literal_term k) z) ∷ unless (like_term (literal_term k) q) ∷ so
          (like_term z q) ∷ []) ≡ true) (sym g)
          (literals_hold k l q)) c

  -- ---- ST3

  written_at : (t : Tree) (q : Pattern) → IsClosed p t → is_string t ≡ true → IsClosed p (like_term t q) → IsWritten t
  written_at t q c e h =
      let l = literal_is t q h in
      subst (λ (z : Tree). IsTerm p.schema p.env p.literals z → is_string z ≡ true → IsWritten z) (sym l.1)
      (literal_written p.schema p.env p.literals l.0) (term t c) e

  written_all : (qs : List Pattern) (v : Signs) (q : Pattern) (ts : List Tree) → asked qs v ≡ Some q → AllByRecursion (IsClosed p) ts → list_all is_string ts ≡ true
      → AreClosed p (crowd qs v ts) → (t : Tree) → Has ts t → IsWritten t
  written_all qs v q ts a all strings closed t i =
      let sign = asked_there qs v q t a in
      let there : Has (crowd qs v ts) (sign.0, like_term t q) =
      Has-left (flat_map (other_signs qs v) ts) (some_equal ts) (sign.0, like_term t q) (Has-flat_map (other_signs qs v) ts t (sign.0, like_term t q) i sign.1) in
      written_at t q (all_element (IsClosed p) ts t all (Contains-from_Has ts t i)) (all_has is_string ts t strings i)
      (all_element (λ (s : Signed). IsClosed p s.1) (crowd qs v ts) (sign.0, like_term t q) closed (Contains-from_Has (crowd qs v ts) (sign.0, like_term t q) there))

  crowd_holds : (qs : List Pattern) (v : Signs) (ts : List Tree) → AllByRecursion (IsClosed p) ts → AreFew qs v (length ts)
      → ((length v == length qs) && list_all is_string ts) ≡ true → AreClosed p (crowd qs v ts) → some_hold M (crowd qs v ts) ≡ true
  crowd_holds qs v ts all few test closed = by (asked qs v) refl
    where
      by : (o : Option Pattern) → asked qs v ≡ o → some_hold M (crowd qs v ts) ≡ true
      by None e = absurd (not_few qs v (length ts) (none_asked qs v e) few)
      by (Some q) e =
          let written = written_all qs v q ts e all (and_second (length v == length qs) _ test) closed in
          written_crowd M qs v ts written test few

  st3_at : (qs : List Pattern) (v : Signs) (ts : List Tree) (parts : List Signed) → AllByRecursion (IsClosed p) ts → AreFew qs v (length ts)
      → (b : Bool) → ((length v == length qs) && list_all is_string ts) ≡ b → given b (crowd qs v ts) ≡ Some parts → AreClosed p parts → some_hold M parts ≡ true
  st3_at qs v ts parts all few false t e closed = absurd cc
  st3_at qs v ts parts all few true t e closed =
      let same = same_some e in
      subst (λ (ps : List Signed). some_hold M ps ≡ true) same
      (crowd_holds qs v ts all few t (subst (AreClosed p) (sym same) closed))

  pub strings_hold : StringsHold p m
  strings_hold = record {
    st1 = λ qs a b i parts c k e all. st1_at a b (slice_get qs i) parts e all;
    st3 = λ qs v ts parts all few e closed. st3_at qs v ts parts all few ((length v == length qs) && list_all is_string ts) refl e closed;
  }
