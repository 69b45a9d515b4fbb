-- None of the instances that closed terms name is falsified, once each term was looked at.
use Rattle.std.proofs.Common.{◌≡◌, ◌≢◌, ◌<◌, ◌≤◌, ◌+◌, ◌&&◌, ℕ, zero, suc, Bool, true, false, List, length, Option, Some, None, option_map, IfNone, refl, sym, ap, ◌∙◌, subst, arith, ⊎_elim}
use Rattle.std.proofs.lemmas.Bool.{cases_lt}
use Rattle.std.proofs.lemmas.List.{length-map}
use Rattle.std.proofs.lemmas.Option.{slice_get_past}
use Rattle.sc_laws.proofs.OptionLaws.{same_some}
use Rattle.sc_clauses.specs.Assignments.{Assignment}
use Rattle.sc_sorts.specs.Inside.{SortFields}
use Rattle.sc_sorts.specs.declared.node.BinaryOp.TheVariants.{Equal}
use Rattle.sc_terms.specs.Trees.{Tree, leaf, one, two, choice, many}
use Rattle.sc_terms.specs.Tables.{tree}
use Rattle.sc_footprint.proofs.NumberingLaws.{at_suc, numbered_map}
use Rattle.sc_footprint.specs.Problems.{Posed, closed_terms, numbered, term_of}
use Rattle.sc_rule_laws.specs.Equal.{are_options, eq2, eq3, eq3_of, eq4, eq4_of, eq5, eq6, eq7, eq8, field_at}
use Rattle.sc_rule_laws.specs.Signed.{Signed, Said, given}
use Rattle.sc_rule_laws.specs.Terms.{fields_of, is_option, one_sort}
use Rattle.sc_rule_instances.specs.declared.rule.EqualRule.{EqualRule}
use Rattle.sc_rule_instances.specs.declared.rule.EqualRule.TheVariants.{Eq3, Eq4, Eq8}
use Rattle.sc_rule_instances.specs.Instances.{on_one, on_two}
use Rattle.sc_rule_instances.specs.Known.{is_falsified}
use Rattle.th_equal.specs.Equated.{AreSides}
use Rattle.th_equal.specs.Equations.{is_choice}
use Rattle.th_equal.specs.Free.{IsKept, IsFree, AreFieldsFree, AreRecordsFree, AreOptionsFree, IsPairFree, AreSidesFree, IsEquationFree, IsChoiceFree, IsTermFree, AreTermsFree, AreFirstFree}

-- ---- what says nothing

other_test : (b c : Bool) → c ≡ false → (b && c) ≡ false
other_test true c e = e
other_test false c e = refl

given_none : (test : Bool) (parts : List Signed) → test ≡ false → given test parts ≡ None
given_none test parts e = ap (λ (b : Bool). given b parts) e

no_fields : (fs : Option SortFields) → None ≡ option_map (λ (l : SortFields). length l) fs → fs ≡ None
no_fields None e = refl
no_fields (Some l) e = absurd cc

past_fields : (fs : Option SortFields) (count i : ℕ) → Some count ≡ option_map (λ (l : SortFields). length l) fs → count ≤ i → field_at fs i ≡ None
past_fields None count i e h = absurd cc
past_fields (Some l) count i e h = let same : count ≡ length l = same_some e in slice_get_past l i (omega (arith, same, h))

eq2_none : (t : Tree) (side : ℕ) → is_choice t ≡ false → eq2 t side ≡ None
eq2_none (choice c a b) side h = absurd cc
eq2_none _ side h = refl

module _ (t u : Tree) (other : is_option t ≡ false) where
  no_two : are_options t u ≡ false
  no_two = other_test (one_sort t u) (is_option t) other

  eq7_none : (side : ℕ) → eq7 t u side ≡ None
  eq7_none zero = given_none (are_options t u) _ no_two
  eq7_none (suc zero) = given_none (are_options t u) _ no_two
  eq7_none (suc (suc side)) = refl

module _ (p : Posed) (m : Assignment) where
  pub nothing_kept : IsKept p m None
  unfolding is_falsified
  nothing_kept = refl

  kept_none : (said : Said) → said ≡ None → IsKept p m said
  kept_none said e = subst (λ (s : Said). IsKept p m s) (sym e) nothing_kept

  -- a rule on two terms of which the first is none, or is one of which it says nothing
  no_first : (o q : Option Tree) (rule : Tree → Tree → Said) → o ≡ None → IsKept p m (on_two o q rule)
  no_first o q rule e = kept_none (on_two o q rule) (ap (λ (x : Option Tree). on_two x q rule) e)

  mute_first : (o q : Option Tree) (t : Tree) (rule : Tree → Tree → Said) → o ≡ Some t → ((u : Tree) → rule t u ≡ None) → IsKept p m (on_two o q rule)
  mute_first o (Some u) t rule e h = kept_none (on_two o (Some u) rule) (ap (λ (x : Option Tree). on_two x (Some u) rule) e ∙ h u)
  mute_first o None t rule e h = kept_none (on_two o None rule) (ap (λ (x : Option Tree). on_two x None rule) e)

  -- ---- EQ3 and EQ4

  module _ (r s : ℕ) where
    pub fields_none : AreFieldsFree p m r s 0
    unfolding AreFieldsFree
    fields_none i less = absurd (omega (arith, less))

    pub fields_more : (i : ℕ) → IsFree p m (Eq3 r s i) → AreFieldsFree p m r s i → AreFieldsFree p m r s (i + 1)
    unfolding AreFieldsFree
    fields_more i here before k less =
        ⊎_elim (before k) (λ (past : i ≤ k). let same : i ≡ k = omega (arith, past, less) in subst (λ (j : ℕ). IsFree p m (Eq3 r s j)) same here) (cases_lt k i)

    pub fields_all : (i count : ℕ) → count ≤ i → AreFieldsFree p m r s i → AreFieldsFree p m r s count
    unfolding AreFieldsFree
    fields_all i count far h k less = h k (omega (arith, far, less))

    pub records_free : (t : Tree) (count : ℕ) (o : Option EqualRule) → term_of p r ≡ Some t → Some count ≡ option_map (λ (l : SortFields). length l) (fields_of t) → AreFieldsFree p m r s count
        → IfNone o (IsFree p m (Eq4 r s)) → IfNone o (AreRecordsFree p m (term_of p r) (term_of p s))
    unfolding AreFieldsFree
    records_free t count (Some rule) e h first last = tt
    records_free t count None e h first last = record {
      eq3_free = λ i. ⊎_elim
          (first i)
          (λ (past : count ≤ i). mute_first (term_of p r) (term_of p s) t (λ x y. eq3 x y i) e (λ u. ap (eq3_of t u) (past_fields (fields_of t) count i h past)))
          (cases_lt i count);
      eq4_free = last;
    }

  pub no_records : (o q : Option Tree) (t : Tree) → o ≡ Some t → None ≡ option_map (λ (l : SortFields). length l) (fields_of t) → AreRecordsFree p m o q
  no_records o q t e h =
      let none : fields_of t ≡ None = no_fields (fields_of t) h in
      record {
        eq3_free = λ i. mute_first o q t (λ x y. eq3 x y i) e (λ u. ap (λ (fs : Option SortFields). eq3_of t u (field_at fs i)) none);
        eq4_free = mute_first o q t eq4 e (λ u. ap (eq4_of t u) none);
      }

  -- ---- EQ5 to EQ7

  pub no_options : (o q : Option Tree) (t : Tree) → o ≡ Some t → is_option t ≡ false → AreOptionsFree p m o q
  no_options o q t e h = record {
    eq5_free = mute_first o q t eq5 e (λ u. given_none (are_options t u) _ (no_two t u h));
    eq6_free = mute_first o q t eq6 e (λ u. given_none (are_options t u) _ (no_two t u h));
    eq7_free = λ side. mute_first o q t (λ x y. eq7 x y side) e (λ u. eq7_none t u h side);
  }

  eq7_all : (o q : Option Tree) → IsKept p m (on_two o q (λ t u. eq7 t u 0)) → IsKept p m (on_two o q (λ t u. eq7 t u 1)) → (side : ℕ) → IsKept p m (on_two o q (λ t u. eq7 t u side))
  eq7_all o q e f zero = e
  eq7_all o q e f (suc zero) = f
  eq7_all (Some t) (Some u) e f (suc (suc side)) = nothing_kept
  eq7_all (Some t) None e f (suc (suc side)) = nothing_kept
  eq7_all None q e f (suc (suc side)) = nothing_kept

  pub options_free : (o q : Option Tree) (r : Option EqualRule) → IsKept p m (on_two o q eq5) → IsKept p m (on_two o q eq6) → IsKept p m (on_two o q (λ t u. eq7 t u 0))
      → IfNone r (IsKept p m (on_two o q (λ t u. eq7 t u 1))) → IfNone r (AreOptionsFree p m o q)
  options_free o q (Some rule) e f g h = tt
  options_free o q None e f g h = record { eq5_free = e; eq6_free = f; eq7_free = eq7_all o q g h }

  -- ---- two closed terms

  pub no_pair : (o q : Option Tree) → o ≡ None → IsPairFree p m o q
  no_pair o q e = record {
    records = record { eq3_free = λ i. no_first o q (λ x y. eq3 x y i) e; eq4_free = no_first o q eq4 e };
    options = record { eq5_free = no_first o q eq5 e; eq6_free = no_first o q eq6 e; eq7_free = λ side. no_first o q (λ x y. eq7 x y side) e };
  }

  pub pair_free : (o q : Option Tree) (r : Option EqualRule) → AreRecordsFree p m o q → IfNone r (AreOptionsFree p m o q) → IfNone r (IsPairFree p m o q)
  pair_free o q (Some rule) e f = tt
  pair_free o q None e f = record { records = e; options = f }

  at_terms : (r s : ℕ) (a b : Tree) → term_of p r ≡ Some a → term_of p s ≡ Some b → IsPairFree p m (term_of p r) (term_of p s) → IsPairFree p m (Some a) (Some b)
  at_terms r s a b e f h = subst (λ (o : Option Tree). IsPairFree p m o (Some b)) e (subst (λ (o : Option Tree). IsPairFree p m (term_of p r) o) f h)

  pub first_unnumbered : (a b : Tree) → ((n : ℕ) → term_of p n ≢ Some a) → AreSidesFree p m a b
  first_unnumbered a b none = λ r s e f. absurd (none r e)

  pub second_unnumbered : (a b : Tree) → ((n : ℕ) → term_of p n ≢ Some b) → AreSidesFree p m a b
  second_unnumbered a b none = λ r s e f. absurd (none s f)

  pub sides_free : (r s : ℕ) (a b : Tree) (o : Option EqualRule) → term_of p r ≡ Some a → term_of p s ≡ Some b → IsPairFree p m (term_of p r) (term_of p s) → IfNone o (IsPairFree p m (term_of p s) (term_of p r))
      → IfNone o (AreSidesFree p m a b)
  sides_free r s a b (Some rule) e f here turned = tt
  sides_free r s a b None e f here turned = λ i j g h. (at_terms r s a b e f here, at_terms s r b a f e turned)

  -- ---- one closed term

  pub no_equation : (t : Tree) → ((a b : Tree) → t ≢ two Equal a b) → IsEquationFree p m t
  no_equation t none = λ a b e. absurd (none a b e)

  pub equation_free : (t : Tree) (a b : ℕ) (o : Option EqualRule) → AreSides p t a b → IfNone o (AreSidesFree p m (tree p.nodes a) (tree p.nodes b)) → IfNone o (IsEquationFree p m t)
  equation_free t a b (Some rule) sides h = tt
  equation_free t a b None sides h = λ x y e.
      let same : two Equal (tree p.nodes a) (tree p.nodes b) ≡ two Equal x y = sym sides.is ∙ e in
      let first : tree p.nodes a ≡ x = cc in
      let second : tree p.nodes b ≡ y = cc in
      subst (λ (u : Tree). AreSidesFree p m u y) first (subst (λ (u : Tree). AreSidesFree p m (tree p.nodes a) u) second h)

  pub no_term : (o : Option Tree) → o ≡ None → IsTermFree p m o
  no_term None e = record { eq2_free = λ side. nothing_kept; eq8_free = nothing_kept; equation = λ t f. absurd cc }
  no_term (Some t) e = absurd cc

  -- a rule on one term of which it says nothing
  mute_one : (o : Option Tree) (t : Tree) (rule : Tree → Said) → o ≡ Some t → rule t ≡ None → IsKept p m (on_one o rule)
  mute_one o t rule e h = kept_none (on_one o rule) (ap (λ (x : Option Tree). on_one x rule) e ∙ h)

  pub no_choice : (o : Option Tree) (t : Tree) → o ≡ Some t → is_choice t ≡ false → IsChoiceFree p m o
  no_choice o t e h side = mute_one o t (λ u. eq2 u side) e (eq2_none t side h)

  pub no_option : (o : Option Tree) (t : Tree) → o ≡ Some t → is_option t ≡ false → IsKept p m (on_one o eq8)
  no_option o t e h = mute_one o t eq8 e (given_none (is_option t) _ h)

  eq2_all : (o : Option Tree) → IsKept p m (on_one o (λ t. eq2 t 0)) → IsKept p m (on_one o (λ t. eq2 t 1)) → IsChoiceFree p m o
  eq2_all o e f zero = e
  eq2_all o e f (suc zero) = f
  eq2_all None e f (suc (suc side)) = nothing_kept
  eq2_all (Some (leaf l)) e f (suc (suc side)) = nothing_kept
  eq2_all (Some (one op a)) e f (suc (suc side)) = nothing_kept
  eq2_all (Some (two op a b)) e f (suc (suc side)) = nothing_kept
  eq2_all (Some (choice c a b)) e f (suc (suc side)) = nothing_kept
  eq2_all (Some (many op ts)) e f (suc (suc side)) = nothing_kept

  pub choice_free : (o : Option Tree) (r : Option EqualRule) → IsKept p m (on_one o (λ t. eq2 t 0)) → IfNone r (IsKept p m (on_one o (λ t. eq2 t 1))) → IfNone r (IsChoiceFree p m o)
  choice_free o (Some rule) e f = tt
  choice_free o None e f = eq2_all o e f

  pub term_free : (n : ℕ) (t : Tree) (o : Option EqualRule) → term_of p n ≡ Some t → IsChoiceFree p m (term_of p n) → IsFree p m (Eq8 n) → IfNone o (IsEquationFree p m t) → IfNone o (IsTermFree p m (term_of p n))
  term_free n t (Some rule) e f h k = tt
  term_free n t None e f h k = record {
    eq2_free = f;
    eq8_free = h;
    equation = λ u i. subst (λ (x : Tree). IsEquationFree p m x) (same_some (sym e ∙ i)) k;
  }

  -- ---- all closed terms, one more at a time

  pub first_none : AreFirstFree p m 0
  unfolding AreFirstFree
  first_none n less = absurd (omega (arith, less))

  pub first_more : (n : ℕ) → IsTermFree p m (term_of p (n + 1)) → AreFirstFree p m n → AreFirstFree p m (n + 1)
  unfolding AreFirstFree
  first_more n here before k less =
      ⊎_elim (before k) (λ (past : n ≤ k). let same : n ≡ k = omega (arith, past, less) in subst (λ (i : ℕ). IsTermFree p m (term_of p (i + 1))) same here) (cases_lt k n)

  pub first_all : (count : ℕ) → length p.closed ≤ count → AreFirstFree p m count → AreTermsFree p m
  unfolding AreFirstFree
  first_all count all h zero = no_term (term_of p 0) refl
  first_all count all h (suc k) = ⊎_elim (λ (less : k < count). let e : k + 1 ≡ suc k = omega arith in subst (λ (i : ℕ). IsTermFree p m (term_of p i)) e (h k less)) past (cases_lt k count)
    where
      past : count ≤ k → IsTermFree p m (term_of p (suc k))
      past far =
          let none : numbered (closed_terms p) (suc k) ≡ None = at_suc (closed_terms p) k ∙ slice_get_past (closed_terms p) k (let e = length-map p.closed (tree p.nodes) in omega (arith, all, far, e)) in
          no_term (term_of p (suc k)) (numbered_map (tree p.nodes) p.closed (suc k) ∙ none)
