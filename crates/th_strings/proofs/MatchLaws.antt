-- Gaps of ST1: each is a falsified instance of it, and each falsified instance is one.
use Rattle.std.proofs.Common.{◌≡◌, ◌≢◌, ◌<◌, ℕ, Bool, true, false, List, [], ◌∷◌, map, length, slice_get, get_or, Option, Some, None, IfSome, IfNone, is_some, Contains, refl, sym, ap, ◌∙◌, subst}
use Rattle.std.proofs.lemmas.Bool.{true≢false, or_left, or_right}
use Rattle.std.proofs.lemmas.Option.{slice_get_within}
use Rattle.sc_laws.proofs.OptionLaws.{same_some}
use Rattle.sc_lists.proofs.MemberLaws.{Has-place}
use Rattle.sc_clauses.specs.Assignments.{Assignment}
use Rattle.sc_names.specs.declared.uid.Uid.{Uid}
use Rattle.sc_schema.specs.declared.declarations.Env.{Env}
use Rattle.sc_schema.specs.Declarations.{Declarations}
use Rattle.sc_sorts.specs.declared.sort.Sort.{Sort}
use Rattle.sc_sorts.specs.declared.sort.Sort.TheVariants as sort
use Rattle.sc_sorts.proofs.OutLaws.{out_String}
use Rattle.sc_sorts.specs.declared.node.Literal.{Literal}
use Rattle.sc_sorts.specs.declared.node.UnaryOp.TheVariants.{Like}
use Rattle.sc_terms.specs.Folds.{equal_term, like_term, literal_of}
use Rattle.sc_terms.specs.Tables.{tree}
use Rattle.sc_terms.specs.TreeSorts.{tree_sort}
use Rattle.sc_terms.specs.Trees.{Tree, one}
use Rattle.sc_term_laws.proofs.JudgingLaws.{sort_is}
use Rattle.sc_term_laws.specs.Judging as judged
use Rattle.sc_term_laws.specs.Tests as test
use Rattle.sc_footprint.specs.Problems.{Posed, IsPosed, closed_terms, literal, literal_in, term_of}
use Rattle.sc_footprint.specs.Theories.{TermsHold}
use Rattle.sc_footprint.proofs.ProblemLaws.{term_judged}
use Rattle.sc_rule_instances.proofs.LiteralLaws.{number_closed}
use Rattle.sc_rule_instances.specs.Instances.{on_two}
use Rattle.sc_rule_instances.specs.Known.{known, is_falsified}
use Rattle.sc_rule_instances.proofs.FalseLaws.{false_known, known_false, false_negation, known_negation, known_atom}
use Rattle.sc_rule_laws.specs.Signed.{so, unless}
use Rattle.sc_rule_laws.specs.Strings.{Pattern, st1, st1_of}
use Rattle.sc_rule_laws.specs.Terms.{is_string}
use Rattle.th_strings_instances.specs.declared.rule.StringRule.{StringRule}
use Rattle.th_strings_instances.specs.declared.rule.StringRule.TheVariants.{St1}
use Rattle.sc_falsified.specs.Paths.{IsGap, NoGap}
use Rattle.th_strings.specs.Known.{like_known, row_of, sign_of, turned_truth}
use Rattle.th_strings.specs.Texts.{AreTexts, is_text}
use Rattle.th_strings.specs.Violated.{IsViolated, AreMatchesFree}
use Rattle.th_strings.proofs.OutLaws.{outs, broken}
use Rattle.th_strings.proofs.PlaceLaws.{equal_known, row_view, row_is, number_named, named_place, truth_view, truth_is, sign_is}

-- ---- a closed term of which a truth about a pattern is known is a string or a constant

like_inverted : (d : Declarations) (env : Env) (written : List Uid) (k : Sort) (q : Pattern) (t : Tree) → judged.IsTermOf d env written k (one (Like q) t) → judged.IsTermOf d env written sort.String t
like_inverted d env written _ q t (judged.of_like _ _ h s) = h

string_test : (t : Tree) → tree_sort t ≡ sort.String → is_string t ≡ true
string_test t e = ap test.is_string e ∙ ap test.string_level out_String

pub string_text : (t : Tree) → is_string t ≡ true → is_text t ≡ true
string_text t e = or_left (is_string t) (is_some (literal_of t)) e

module _ (laws : TermsHold) (p : Posed) (m : Assignment) (posed : IsPosed p) where
  closed_string : (q : Pattern) (t : Tree) → Contains (closed_terms p) (one (Like q) t) → is_string t ≡ true
  closed_string q t there =
      string_test t (sort_is p.schema p.env p.literals sort.String t (like_inverted p.schema p.env p.literals (tree_sort (one (Like q) t)) q t (term_judged laws p posed (one (Like q) t) there)))

  like_text : (t : Tree) (q : Pattern) (b : Bool) → like_known p m t q ≡ Some b → is_text t ≡ true
  unfolding like_term literal
  like_text t q b e = by (literal_of t) refl
    where
      by : (o : Option Literal) → literal_of t ≡ o → is_text t ≡ true
      by (Some l) f = or_right (is_string t) (is_some (literal_of t)) (ap is_some f)
      by None f =
          let plain : like_term t q ≡ one (Like q) t = rw f refl in
          let asked : known m (literal_in p (one (Like q) t)) ≡ Some b = subst (λ (u : Tree). known m (literal_in p u) ≡ Some b) plain e in
          or_left (is_string t) (is_some (literal_of t)) (closed_string q t (number_closed p (one (Like q) t) (known_atom m (literal_in p (one (Like q) t)) b asked)))

-- ---- ST1 at two terms

module _ (p : Posed) (m : Assignment) where
  st1_out : (t u : Tree) (q : Pattern) (o : Option Pattern) → o ≡ Some q → equal_known p m t u ≡ Some true → like_known p m t q ≡ Some true → like_known p m u q ≡ Some false → is_falsified p m (st1_of t u o) ≡ true
  unfolding is_falsified
  st1_out t u q (Some r) o e f g =
      let same : r ≡ q = same_some o in
      let like_t : like_known p m t r ≡ Some true = ap (like_known p m t) same ∙ f in
      let like_u : like_known p m u r ≡ Some false = ap (like_known p m u) same ∙ g in
      broken p m (unless (equal_term t u) ∷ unless (like_term t r) ∷ so (like_term u r) ∷ [])
      (known_negation m (literal_in p (equal_term t u)) e, (known_negation m (literal_in p (like_term t r)) like_t, (known_false m (literal_in p (like_term u r)) like_u, tt)))
  st1_out t u q None o e f g = absurd cc

  out_st1 : (t u : Tree) (o : Option Pattern) → is_falsified p m (st1_of t u o) ≡ true → (q : Pattern) × (o ≡ Some q) × (equal_known p m t u ≡ Some true) × (like_known p m t q ≡ Some true) × (like_known p m u q ≡ Some false)
  unfolding is_falsified
  out_st1 t u (Some q) h =
      let r = outs p m (unless (equal_term t u) ∷ unless (like_term t q) ∷ so (like_term u q) ∷ []) h in
      (q, refl, false_negation m (literal_in p (equal_term t u)) r.0, false_negation m (literal_in p (like_term t q)) r.1.0, false_known m (literal_in p (like_term u q)) r.1.1.0)
  out_st1 t u None h = absurd cc

  two_view : (qs : List Pattern) (i : ℕ) (o r : Option Tree) → is_falsified p m (on_two o r (λ t u. st1 qs t u i)) ≡ true
      → (t : Tree) × (u : Tree) × (o ≡ Some t) × (r ≡ Some u) × (is_falsified p m (st1_of t u (slice_get qs i)) ≡ true)
  unfolding is_falsified
  two_view qs i (Some t) (Some u) h = (t, u, refl, refl, h)
  two_view qs i (Some t) None h = absurd cc
  two_view qs i None r h = absurd cc

  module _ (qs : List Pattern) (ns : List ℕ) where
    abbrev pub rows : List (List (Option Bool))
    rows = map (λ n. row_of p m qs (term_of p n)) ns

    abbrev pub Gap : ℕ → ℕ → ℕ → Type 0
    Gap a b c = IsGap (turned_truth p m ns) (sign_of rows) (sign_of rows) a b c

    pub gap_places : (a b c : ℕ) → Gap a b c → (a < length ns) × (b < length ns)
    gap_places a b c gap =
        let (x, y, e, f, k) = truth_view p m ns b a true gap.joined in
        ((number_named p m ns a y f).2, (number_named p m ns b x e).2)

    pub gap_found : (a b c : ℕ) → Gap a b c → IsViolated p m qs (St1 (get_or ns b 0) (get_or ns a 0) c)
    gap_found a b c gap =
        let (x, y, e, f, k) = truth_view p m ns b a true gap.joined in
        let (q, q_is, q_known) = row_view p m qs (tree p.nodes x) c true (sym (sign_is p m ns qs b c x e) ∙ gap.goes_on) in
        let other : like_known p m (tree p.nodes y) q ≡ Some false = sym (row_is p m qs (tree p.nodes y) c q q_is) ∙ sym (sign_is p m ns qs a c y f) ∙ gap.apart in
        let out : is_falsified p m (st1_of (tree p.nodes x) (tree p.nodes y) (slice_get qs c)) ≡ true = st1_out (tree p.nodes x) (tree p.nodes y) q (slice_get qs c) q_is k q_known other in
        let first = (number_named p m ns b x e).1 in
        let second = (number_named p m ns a y f).1 in (
          ap (λ (o : Option Tree). is_falsified p m (on_two o (term_of p (get_or ns a 0)) (λ t u. st1 qs t u c))) first
              ∙ ap (λ (o : Option Tree). is_falsified p m (on_two (Some (tree p.nodes x)) o (λ t u. st1 qs t u c))) second ∙ out,
          tt,
        )

    never_both : (o : Option Bool) → o ≡ Some true → o ≡ Some false → ⊥
    never_both o e f = true≢false (same_some (sym e ∙ f))

    pub no_gap : TermsHold → IsPosed p → AreTexts p ns → NoGap (turned_truth p m ns) (sign_of rows) (sign_of rows) (length ns) (length ns) (length qs) → AreMatchesFree p m qs
    no_gap laws posed are none a b i h =
        let (t, u, t_is, u_is, out) = two_view qs i (term_of p a) (term_of p b) h.0 in
        let (q, q_is, equal, first, second) = out_st1 t u (slice_get qs i) out in
        let (j, j_in, j_at) = Has-place ns a (are.all a t t_is (like_text laws p m posed t q true first)) in
        let (k, k_in, k_at) = Has-place ns b (are.all b u u_is (like_text laws p m posed u q false second)) in
        let (x, x_named, x_is) = named_place p m ns j a t j_at t_is in
        let (y, y_named, y_is) = named_place p m ns k b u k_at u_is in
        let like_x : like_known p m (tree p.nodes x) q ≡ Some true = ap (λ (s : Tree). like_known p m s q) x_is ∙ first in
        let like_y : like_known p m (tree p.nodes y) q ≡ Some false = ap (λ (s : Tree). like_known p m s q) y_is ∙ second in
        let other : x ≢ y = λ same. never_both (like_known p m (tree p.nodes y) q) (subst (λ (n : ℕ). like_known p m (tree p.nodes n) q ≡ Some true) same like_x) like_y in
        let one : equal_known p m (tree p.nodes x) (tree p.nodes y) ≡ Some true = ap (λ (s : Tree). equal_known p m s (tree p.nodes y)) x_is ∙ ap (equal_known p m t) y_is ∙ equal in
        none k j i k_in j_in (slice_get_within qs i q q_is) (record {
          joined = truth_is p m ns j k x y true x_named y_named other one;
          goes_on = sign_is p m ns qs j i x x_named ∙ row_is p m qs (tree p.nodes x) i q q_is ∙ like_x;
          apart = sign_is p m ns qs k i y y_named ∙ row_is p m qs (tree p.nodes y) i q q_is ∙ like_y;
        })

    -- ---- the converse, of what a search finds

    module _ (rs : List (List (Option Bool))) (same : rs ≡ rows) (o : Option (ℕ × ℕ × ℕ)) where
      pub match_told : (a b c : ℕ) (rule : StringRule) → o ≡ Some (a, b, c) → IfSome o (λ t. IsGap (turned_truth p m ns) (sign_of rs) (sign_of rs) t.0 t.1 t.2)
          → rule ≡ St1 (get_or ns b 0) (get_or ns a 0) c → IsViolated p m qs rule
      match_told a b c rule is found e =
          let gap : IsGap (turned_truth p m ns) (sign_of rs) (sign_of rs) a b c = subst (λ q. IfSome q (λ t. IsGap (turned_truth p m ns) (sign_of rs) (sign_of rs) t.0 t.1 t.2)) is found in
          subst (IsViolated p m qs) (sym e) (gap_found a b c (subst (λ (vs : List (List (Option Bool))). IsGap (turned_truth p m ns) (sign_of vs) (sign_of vs) a b c) same gap))

      pub told_places : (a b c : ℕ) → o ≡ Some (a, b, c) → IfSome o (λ t. IsGap (turned_truth p m ns) (sign_of rs) (sign_of rs) t.0 t.1 t.2) → (a < length ns) × (b < length ns)
      told_places a b c is found =
          let gap : IsGap (turned_truth p m ns) (sign_of rs) (sign_of rs) a b c = subst (λ q. IfSome q (λ t. IsGap (turned_truth p m ns) (sign_of rs) (sign_of rs) t.0 t.1 t.2)) is found in
          gap_places a b c (subst (λ (vs : List (List (Option Bool))). IsGap (turned_truth p m ns) (sign_of vs) (sign_of vs) a b c) same gap)

      pub match_none : TermsHold → IsPosed p → AreTexts p ns → o ≡ None → IfNone o (NoGap (turned_truth p m ns) (sign_of rs) (sign_of rs) (length ns) (length ns) (length qs)) → AreMatchesFree p m qs
      match_none laws posed are is none =
          no_gap laws posed are
          (subst (λ (vs : List (List (Option Bool))). NoGap (turned_truth p m ns) (sign_of vs) (sign_of vs) (length ns) (length ns) (length qs)) same
          (subst (λ q. IfNone q (NoGap (turned_truth p m ns) (sign_of rs) (sign_of rs) (length ns) (length ns) (length qs))) is none))
