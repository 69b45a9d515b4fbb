-- Where no instance is falsified, no rule of equations, sets and entities is.
use Rattle.std.proofs.Common.{◌≡◌, ◌==◌, ◌<◌, ◌≤◌, ◌^◌, ℕ, zero, suc, nat_lt, arith, slice_get, Bool, true, false, List, [], ◌∷◌, codes, map, length, Option, Some, None, Contains, refl, sym, ap, ◌∙◌, subst}
use Rattle.std.proofs.lemmas.Bool.Decides.{nat_tests}
use Rattle.std.proofs.lemmas.Option.{slice_get_past}
use Rattle.std.specs.List.{AllByRecursion}
use Rattle.sc_laws.proofs.BoolLaws.{never}
use Rattle.sc_laws.proofs.OptionLaws.{same_some}
use Rattle.sc_clauses.specs.Assignments.{Assignment}
use Rattle.sc_clauses.specs.declared.step.Instance.{Instance}
use Rattle.sc_clauses.specs.declared.step.Word.TheVariants.{Number}
use Rattle.sc_sorts.specs.Inside.{SortField, SortFields}
use Rattle.sc_sorts.specs.declared.node.ManyOp.TheVariants as manys
use Rattle.sc_sorts.specs.declared.node.UnaryOp.TheVariants as unary
use Rattle.sc_sorts.specs.declared.node.BinaryOp.TheVariants as binary
use Rattle.sc_sorts.specs.declared.sort.Sort.{Sort, Sort-F, out-Sort}
use Rattle.sc_sorts.specs.declared.sort.Sort.TheOpen as s
use Rattle.sc_sorts.specs.contracts.sort.SortPartialEq.TheImpl.{ghosts as sorts}
use Rattle.sc_terms.specs.Trees.{Tree, leaf, one, two, choice, many}
use Rattle.sc_terms.specs.TreeSorts.{tree_sort}
use Rattle.sc_terms.specs.Folds.{equal_term}
use Rattle.sc_footprint.specs.Problems.{Posed, IsPosed, closed_terms, term_of}
use Rattle.sc_footprint.specs.Written.{is_number}
use Rattle.sc_rule_laws.specs.Signed.{Signed, Said, so, unless, given}
use Rattle.sc_rule_laws.specs.Terms.{fields_of, member, subset, common, members, written as set_members}
use Rattle.sc_rule_laws.specs.Equal.{eq1, eq2, eq3_of, field_at, eq3, eq4, eq5, eq6, eq7, eq8}
use Rattle.sc_rule_laws.specs.Sets.{se1, se2, se3_of, se3, se4, se5, se6, se7, se8, se9_at, se9_of, se9, se10_at, se10_of, se10}
use Rattle.sc_rule_laws.specs.Places.{roots, half_by, under}
use Rattle.sc_rule_laws.specs.Entities.{en1_of, en1, en2, en3_of, en3, en4, en5, en6, en7, en8, eq9}
use Rattle.sc_rule_instances.specs.Instances.{on_one, on_two, on_three, on_four, equal_said, set_said, entity_said, equal_of, set_of, entity_of}
use Rattle.sc_rule_instances.specs.Known.{is_falsified}
use Rattle.sc_rule_instances.specs.Names.{numbers_of, equal_named, equal_rule, set_named, set_rule, entity_named, entity_rule}
use Rattle.sc_rule_instances.specs.declared.rule.EqualRule.{EqualRule}
use Rattle.sc_rule_instances.specs.declared.rule.EqualRule.TheVariants.{Eq1, Eq2, Eq3, Eq4, Eq5, Eq6, Eq7, Eq8}
use Rattle.sc_rule_instances.specs.declared.rule.SetRule.{SetRule}
use Rattle.sc_rule_instances.specs.declared.rule.SetRule.TheVariants.{Se1, Se2, Se3, Se4, Se5, Se6, Se7, Se8, Se9, Se10}
use Rattle.sc_rule_instances.specs.declared.rule.EntityRule.{EntityRule}
use Rattle.sc_rule_instances.specs.declared.rule.EntityRule.TheVariants.{En1, En2, En3, En4, En5, En6, En7, En8, Eq9}
use Rattle.sc_rule_instances.proofs.RulesHold.{term_closed}
use Rattle.sc_model_consistency.specs.Laws.{HasSmallPlaces}
use Rattle.sc_model_consistency.proofs.NumberLaws.{IsSmall, zero_small, one_small, two_small, none_less, words_small, number_small, fields_within, members_within, past_places, never_place}
use Rattle.sc_model_consistency.proofs.InstanceLaws.{IsRight, written, rule_free, numbers_back}

module _ (p : Posed) (posed : IsPosed p) (places : HasSmallPlaces p) (m : Assignment) where
  abbrev pub Free : Said → Type 0
  Free said = is_falsified p m said ≡ false

  pub said_none : Free None
  unfolding is_falsified
  said_none = refl

  small : (n : ℕ) (t : Tree) → term_of p n ≡ Some t → IsSmall n
  small n t e = number_small p posed n t e

  -- ---- where some number has no closed term nothing is said, and else each is small

  one_free : (a : ℕ) (rule : Tree → Said) → (IsSmall a → Free (on_one (term_of p a) rule)) → Free (on_one (term_of p a) rule)
  one_free a rule h = by (term_of p a) refl h
    where
      by : (o : Option Tree) → term_of p a ≡ o → (IsSmall a → Free (on_one o rule)) → Free (on_one o rule)
      by (Some t) e g = g (small a t e)
      by None e g = said_none

  pub two_free : (a b : ℕ) (rule : Tree → Tree → Said) → (IsSmall a → IsSmall b → Free (on_two (term_of p a) (term_of p b) rule))
      → Free (on_two (term_of p a) (term_of p b) rule)
  two_free a b rule h = by (term_of p a) (term_of p b) refl refl h
    where
      by : (o q : Option Tree) → term_of p a ≡ o → term_of p b ≡ q → (IsSmall a → IsSmall b → Free (on_two o q rule)) → Free (on_two o q rule)
      by (Some t) (Some u) e f g = g (small a t e) (small b u f)
      by (Some t) None e f g = said_none
      by None q e f g = said_none

  three_free : (a b c : ℕ) (rule : Tree → Tree → Tree → Said)
      → (IsSmall a → IsSmall b → IsSmall c → Free (on_three (term_of p a) (term_of p b) (term_of p c) rule))
      → Free (on_three (term_of p a) (term_of p b) (term_of p c) rule)
  three_free a b c rule h = by (term_of p a) (term_of p b) (term_of p c) refl refl refl h
    where
      by : (o q r : Option Tree) → term_of p a ≡ o → term_of p b ≡ q → term_of p c ≡ r
          → (IsSmall a → IsSmall b → IsSmall c → Free (on_three o q r rule)) → Free (on_three o q r rule)
      by (Some t) (Some u) (Some v) e f g k = k (small a t e) (small b u f) (small c v g)
      by (Some t) (Some u) None e f g k = said_none
      by (Some t) None r e f g k = said_none
      by None q r e f g k = said_none

  four_free : (a b c d : ℕ) (rule : Tree → Tree → Tree → Tree → Said)
      → (IsSmall a → IsSmall b → IsSmall c → IsSmall d → Free (on_four (term_of p a) (term_of p b) (term_of p c) (term_of p d) rule))
      → Free (on_four (term_of p a) (term_of p b) (term_of p c) (term_of p d) rule)
  four_free a b c d rule h = by (term_of p a) (term_of p b) (term_of p c) (term_of p d) refl refl refl refl h
    where
      by : (o q r s : Option Tree) → term_of p a ≡ o → term_of p b ≡ q → term_of p c ≡ r → term_of p d ≡ s
          → (IsSmall a → IsSmall b → IsSmall c → IsSmall d → Free (on_four o q r s rule)) → Free (on_four o q r s rule)
      by (Some t) (Some u) (Some v) (Some w) e f g i k = k (small a t e) (small b u f) (small c v g) (small d w i)
      by (Some t) (Some u) (Some v) None e f g i k = said_none
      by (Some t) (Some u) None s e f g i k = said_none
      by (Some t) None r s e f g i k = said_none
      by None q r s e f g i k = said_none

  -- ---- where nothing is said of closed terms nothing is

  one_said : (a : ℕ) (rule : Tree → Said) → ((t : Tree) → Free (rule t)) → Free (on_one (term_of p a) rule)
  one_said a rule h = by (term_of p a)
    where
      by : (o : Option Tree) → Free (on_one o rule)
      by (Some t) = h t
      by None = said_none

  two_said : (a b : ℕ) (rule : Tree → Tree → Said)
      → ((t u : Tree) → Contains (closed_terms p) t → Contains (closed_terms p) u → Free (rule t u))
      → Free (on_two (term_of p a) (term_of p b) rule)
  two_said a b rule h = by (term_of p a) (term_of p b) refl refl
    where
      by : (o q : Option Tree) → term_of p a ≡ o → term_of p b ≡ q → Free (on_two o q rule)
      by (Some t) (Some u) e f = h t u (term_closed p a t e) (term_closed p b u f)
      by (Some t) None e f = said_none
      by None q e f = said_none

  -- a place is small, or nothing is said of it
  placed : (i : ℕ) (said : Said) → (IsSmall i → Free said) → (is_number i ≡ false → Free said) → Free said
  placed i said h k = by (is_number i) refl
    where
      by : (b : Bool) → is_number i ≡ b → Free said
      by true e = h e
      by false e = k e

  -- ---- nothing is said of places that no log can hold

  eq2_past : (t : Tree) (i : ℕ) → is_number i ≡ false → Free (eq2 t i)
  eq2_past (choice c a b) zero big = never _ (sym zero_small ∙ big)
  eq2_past (choice c a b) (suc zero) big = never _ (sym one_small ∙ big)
  eq2_past (choice c a b) (suc (suc i)) big = said_none
  eq2_past _ i big = said_none

  eq3_past : (r s : Tree) (i : ℕ) → Contains (closed_terms p) r → is_number i ≡ false → Free (eq3 r s i)
  eq3_past r s i there big = by (fields_of r) refl
    where
      by : (o : Option SortFields) → fields_of r ≡ o → Free (eq3_of r s (field_at o i))
      by None e = said_none
      by (Some fs) e =
          let none = slice_get_past fs i (past_places (length fs) i _ (fields_within p.schema r fs e) (places r there) big) in
          ap (λ (o : Option SortField). is_falsified p m (eq3_of r s o)) none ∙ said_none

  eq7_past : (o q : Tree) (i : ℕ) → is_number i ≡ false → Free (eq7 o q i)
  eq7_past o q zero big = never _ (sym zero_small ∙ big)
  eq7_past o q (suc zero) big = never _ (sym one_small ∙ big)
  eq7_past o q (suc (suc i)) big = said_none

  se3_past : (x s : Tree) (i : ℕ) → Contains (closed_terms p) s → is_number i ≡ false → Free (se3 x s i)
  se3_past x (many (manys.Set k) ts) i there big =
      let none = slice_get_past (members ts) i
      (past_places (length (members ts)) i _ (members_within p.schema (many (manys.Set k) ts) ts refl) (places (many (manys.Set k) ts) there) big) in
      ap (λ (o : Option Tree). is_falsified p m (se3_of x (many (manys.Set k) ts) o)) none ∙ said_none
  se3_past x _ i there big = said_none

  -- a set term's members are fewer
  few_standing : (s : Tree) (us : List Tree) (i : ℕ) → Contains (closed_terms p) s → is_number i ≡ false → set_members s ≡ Some us → length us < i
  few_standing (many (manys.Set k) ts) us i there big e =
      subst (λ (vs : List Tree). length vs < i) (same_some e)
      (never_place (length (members ts)) i _ (members_within p.schema (many (manys.Set k) ts) ts refl) (places (many (manys.Set k) ts) there) big)
  few_standing (many manys.Record ts) us i there big e = absurd cc
  few_standing (leaf l) us i there big e = absurd cc
  few_standing (one o a) us i there big e = absurd cc
  few_standing (two o a b) us i there big e = absurd cc
  few_standing (choice c a b) us i there big e = absurd cc

  not_last : (i n : ℕ) → n < i → (i == n) ≡ false
  not_last i n h = grind (arith, nat_tests)

  past_standing : (said : Option Tree → Said) (parts : List Signed) (us : List Tree) (i : ℕ) → length us < i → said None ≡ given (i == length us) parts → Free (said (slice_get us i))
  past_standing said parts us i far e =
      let past : length us ≤ i = omega (arith, far) in
      ap (λ (o : Option Tree). is_falsified p m (said o)) (slice_get_past us i past)
      ∙ ap (is_falsified p m) (e ∙ ap (λ (b : Bool). given b parts) (not_last i (length us) far)) ∙ said_none

  se9_past : (s t : Tree) (i : ℕ) → Contains (closed_terms p) s → is_number i ≡ false → Free (se9 s t i)
  se9_past s t i there big = by (set_members s) refl
    where
      by : (o : Option (List Tree)) → set_members s ≡ o → Free (se9_of o s t i)
      by None e = said_none
      by (Some us) e = past_standing (se9_at s t us i) (so (subset s t) ∷ map (λ u. unless (member u t)) us) us i (few_standing s us i there big e) refl

  se10_past : (s t : Tree) (i : ℕ) → Contains (closed_terms p) s → Contains (closed_terms p) t → is_number i ≡ false → Free (se10 s t i)
  se10_past s t i there here big = by (set_members s) (set_members t) refl refl
    where
      by : (o q : Option (List Tree)) → set_members s ≡ o → set_members t ≡ q → Free (se10_of o q s t i)
      by None None e f = said_none
      by (Some us) q e f = past_standing (se10_at (common s t) us t i) (unless (common s t) ∷ map (λ u. so (member u t)) us) us i (few_standing s us i there big e) refl
      by None (Some us) e f = past_standing (se10_at (common s t) us s i) (unless (common s t) ∷ map (λ u. so (member u s)) us) us i (few_standing t us i here big f) refl

  se5_past : (s t : Tree) (i : ℕ) → is_number i ≡ false → Free (se5 s t i)
  se5_past s t zero big = never _ (sym zero_small ∙ big)
  se5_past s t (suc zero) big = never _ (sym one_small ∙ big)
  se5_past s t (suc (suc i)) big = said_none

  se6_past : (s t : Tree) (i : ℕ) → is_number i ≡ false → Free (se6 s t i)
  se6_past s t zero big = never _ (sym zero_small ∙ big)
  se6_past s t (suc zero) big = never _ (sym one_small ∙ big)
  se6_past s t (suc (suc i)) big = said_none

  se8_past : (s t : Tree) (i : ℕ) → is_number i ≡ false → Free (se8 s t i)
  se8_past s t zero big = never _ (sym zero_small ∙ big)
  se8_past s t (suc zero) big = never _ (sym one_small ∙ big)
  se8_past s t (suc (suc zero)) big = never _ (sym two_small ∙ big)
  se8_past s t (suc (suc (suc i))) big = said_none

  -- ---- like places

  -- no bit has such a place
  no_bit : (n i : ℕ) (parts : List Signed) → nat_lt n (10 ^ 18) ≡ true → is_number i ≡ false → given (nat_lt i n) parts ≡ None
  no_bit n i parts few big = ap (λ (t : Bool). given t parts) (none_less i n (10 ^ 18) few big)

  no_candidate : (i : ℕ) → is_number i ≡ false → term_of p i ≡ None
  no_candidate i big = by (term_of p i) refl
    where
      by : (o : Option Tree) → term_of p i ≡ o → o ≡ None
      by None e = refl
      by (Some t) e = never _ (sym (small i t e) ∙ big)

  half_past : (k : Sort-F Sort) (x y : Tree) (i : ℕ) → is_number i ≡ false → half_by k x y i (term_of p i) ≡ None
  half_past s.Bool x y zero big = never _ (sym zero_small ∙ big)
  half_past s.Bool x y (suc i) big = refl
  half_past s.String x y zero big = never _ (sym zero_small ∙ big)
  half_past s.String x y (suc i) big = refl
  half_past (s.Entity name us) x y zero big = never _ (sym zero_small ∙ big)
  half_past (s.Entity name us) x y (suc i) big = refl
  half_past (s.Option k) x y zero big = never _ (sym zero_small ∙ big)
  half_past (s.Option k) x y (suc i) big = refl
  half_past s.Long x y i big = no_bit 64 i _ refl big
  half_past s.Decimal x y i big = no_bit 64 i _ refl big
  half_past s.Ip x y i big = no_bit 257 i _ refl big
  half_past (s.Set k) x y i big = ap (half_by (s.Set k) x y i) (no_candidate i big)
  half_past (s.Record fs) x y i big = refl

  under_none : (test : Bool) (guard : List Signed) → Free (under test guard None)
  under_none true guard = said_none
  under_none false guard = said_none

  first_none : (r q : Tree) → Free (en1_of r q None)
  first_none (one (unary.Attributes k) e) (one (unary.Attributes l) f) = under_none (sorts.eq k l) (unless (equal_term e f) ∷ [])
  first_none (one (unary.Attributes k) e) _ = said_none
  first_none _ q = said_none

  third_none : (r q : Tree) → Free (en3_of r q None)
  third_none (two (binary.Tag j) e k) (two (binary.Tag o) f l) =
      under_none (sorts.eq j o) (unless (equal_term e f) ∷ unless (equal_term k l) ∷ [])
  third_none (two (binary.Tag j) e k) _ = said_none
  third_none _ q = said_none

  en1_past : (x y : Tree) (i : ℕ) → is_number i ≡ false → Free (en1 x y i (term_of p i))
  en1_past x y i big =
      subst (λ (said : Said). Free (en1_of (roots x y).0 (roots x y).1 said)) (sym (half_past (out-Sort (tree_sort x)) x y i big)) (first_none (roots x y).0 (roots x y).1)

  en3_past : (x y : Tree) (i : ℕ) → is_number i ≡ false → Free (en3 x y i (term_of p i))
  en3_past x y i big =
      subst (λ (said : Said). Free (en3_of (roots x y).0 (roots x y).1 said)) (sym (half_past (out-Sort (tree_sort x)) x y i big)) (third_none (roots x y).0 (roots x y).1)

  -- ---- rules

  module _ (right : (i : Instance) → IsRight p m (equal_of p i)) where
    of_equal : (word ns : List ℕ) (rule : EqualRule) → AllByRecursion IsSmall ns → equal_named word (numbers_of (map Number ns)) ≡ Some rule
        → Free (equal_said p rule)
    of_equal word ns rule small e =
        rule_free p m equal_rule (equal_said p) right (written word (map Number ns)) rule (ap (equal_named word) (numbers_back (map Number ns) (words_small ns small)) ∙ e)

    pub equal_free : (rule : EqualRule) → Free (equal_said p rule)
    equal_free (Eq1 a b c) = three_free a b c eq1 (λ x y z. of_equal (codes "EQ1") (a ∷ b ∷ c ∷ []) (Eq1 a b c) (x, (y, (z, tt))) refl)
    equal_free (Eq2 x i) =
        placed i (equal_said p (Eq2 x i)) (λ j. one_free x (λ t. eq2 t i) (λ y. of_equal (codes "EQ2") (x ∷ i ∷ []) (Eq2 x i) (y, (j, tt)) refl))
        (λ big. one_said x (λ t. eq2 t i) (λ t. eq2_past t i big))
    equal_free (Eq3 r s i) =
        placed i (equal_said p (Eq3 r s i))
        (λ j. two_free r s (λ t u. eq3 t u i) (λ x y. of_equal (codes "EQ3") (r ∷ s ∷ i ∷ []) (Eq3 r s i) (x, (y, (j, tt))) refl))
        (λ big. two_said r s (λ t u. eq3 t u i) (λ t u there here. eq3_past t u i there big))
    equal_free (Eq4 r s) = two_free r s eq4 (λ x y. of_equal (codes "EQ4") (r ∷ s ∷ []) (Eq4 r s) (x, (y, tt)) refl)
    equal_free (Eq5 o q) = two_free o q eq5 (λ x y. of_equal (codes "EQ5") (o ∷ q ∷ []) (Eq5 o q) (x, (y, tt)) refl)
    equal_free (Eq6 o q) = two_free o q eq6 (λ x y. of_equal (codes "EQ6") (o ∷ q ∷ []) (Eq6 o q) (x, (y, tt)) refl)
    equal_free (Eq7 o q i) =
        placed i (equal_said p (Eq7 o q i))
        (λ j. two_free o q (λ t u. eq7 t u i) (λ x y. of_equal (codes "EQ7") (o ∷ q ∷ i ∷ []) (Eq7 o q i) (x, (y, (j, tt))) refl))
        (λ big. two_said o q (λ t u. eq7 t u i) (λ t u there here. eq7_past t u i big))
    equal_free (Eq8 o) = one_free o eq8 (λ x. of_equal (codes "EQ8") (o ∷ []) (Eq8 o) (x, tt) refl)

  module _ (right : (i : Instance) → IsRight p m (set_of p i)) where
    of_sets : (word ns : List ℕ) (rule : SetRule) → AllByRecursion IsSmall ns → set_named word (numbers_of (map Number ns)) ≡ Some rule → Free (set_said p rule)
    of_sets word ns rule small e =
        rule_free p m set_rule (set_said p) right (written word (map Number ns)) rule (ap (set_named word) (numbers_back (map Number ns) (words_small ns small)) ∙ e)

    pub sets_free : (rule : SetRule) → Free (set_said p rule)
    sets_free (Se1 x y s) = three_free x y s se1 (λ a b c. of_sets (codes "SE1") (x ∷ y ∷ s ∷ []) (Se1 x y s) (a, (b, (c, tt))) refl)
    sets_free (Se2 x s) = two_free x s se2 (λ a b. of_sets (codes "SE2") (x ∷ s ∷ []) (Se2 x s) (a, (b, tt)) refl)
    sets_free (Se3 x s i) =
        placed i (set_said p (Se3 x s i))
        (λ j. two_free x s (λ t u. se3 t u i) (λ a b. of_sets (codes "SE3") (x ∷ s ∷ i ∷ []) (Se3 x s i) (a, (b, (j, tt))) refl))
        (λ big. two_said x s (λ t u. se3 t u i) (λ t u there here. se3_past t u i here big))
    sets_free (Se4 s t x) = three_free s t x se4 (λ a b c. of_sets (codes "SE4") (s ∷ t ∷ x ∷ []) (Se4 s t x) (a, (b, (c, tt))) refl)
    sets_free (Se5 s t i) =
        placed i (set_said p (Se5 s t i))
        (λ j. two_free s t (λ u v. se5 u v i) (λ a b. of_sets (codes "SE5") (s ∷ t ∷ i ∷ []) (Se5 s t i) (a, (b, (j, tt))) refl))
        (λ big. two_said s t (λ u v. se5 u v i) (λ u v there here. se5_past u v i big))
    sets_free (Se6 s t i) =
        placed i (set_said p (Se6 s t i))
        (λ j. two_free s t (λ u v. se6 u v i) (λ a b. of_sets (codes "SE6") (s ∷ t ∷ i ∷ []) (Se6 s t i) (a, (b, (j, tt))) refl))
        (λ big. two_said s t (λ u v. se6 u v i) (λ u v there here. se6_past u v i big))
    sets_free (Se7 s t x) = three_free s t x se7 (λ a b c. of_sets (codes "SE7") (s ∷ t ∷ x ∷ []) (Se7 s t x) (a, (b, (c, tt))) refl)
    sets_free (Se8 s t i) =
        placed i (set_said p (Se8 s t i))
        (λ j. two_free s t (λ u v. se8 u v i) (λ a b. of_sets (codes "SE8") (s ∷ t ∷ i ∷ []) (Se8 s t i) (a, (b, (j, tt))) refl))
        (λ big. two_said s t (λ u v. se8 u v i) (λ u v there here. se8_past u v i big))
    sets_free (Se9 s t i) =
        placed i (set_said p (Se9 s t i))
        (λ j. two_free s t (λ u v. se9 u v i) (λ a b. of_sets (codes "SE9") (s ∷ t ∷ i ∷ []) (Se9 s t i) (a, (b, (j, tt))) refl))
        (λ big. two_said s t (λ u v. se9 u v i) (λ u v there here. se9_past u v i there big))
    sets_free (Se10 s t i) =
        placed i (set_said p (Se10 s t i))
        (λ j. two_free s t (λ u v. se10 u v i) (λ a b. of_sets (codes "SE10") (s ∷ t ∷ i ∷ []) (Se10 s t i) (a, (b, (j, tt))) refl))
        (λ big. two_said s t (λ u v. se10 u v i) (λ u v there here. se10_past u v i there here big))

  module _ (right : (i : Instance) → IsRight p m (entity_of p i)) where
    of_entities : (word ns : List ℕ) (rule : EntityRule) → AllByRecursion IsSmall ns → entity_named word (numbers_of (map Number ns)) ≡ Some rule
        → Free (entity_said p rule)
    of_entities word ns rule small e =
        rule_free p m entity_rule (entity_said p) right (written word (map Number ns)) rule (ap (entity_named word) (numbers_back (map Number ns) (words_small ns small)) ∙ e)

    pub entities_free : (rule : EntityRule) → Free (entity_said p rule)
    entities_free (En1 x y i) =
        placed i (entity_said p (En1 x y i))
        (λ j. two_free x y (λ t u. en1 t u i (term_of p i)) (λ a b. of_entities (codes "EN1") (x ∷ y ∷ i ∷ []) (En1 x y i) (a, (b, (j, tt))) refl))
        (λ big. two_said x y (λ t u. en1 t u i (term_of p i)) (λ t u there here. en1_past t u i big))
    entities_free (En2 x s z) = three_free x s z en2 (λ a b c. of_entities (codes "EN2") (x ∷ s ∷ z ∷ []) (En2 x s z) (a, (b, (c, tt))) refl)
    entities_free (En3 x y i) =
        placed i (entity_said p (En3 x y i))
        (λ j. two_free x y (λ t u. en3 t u i (term_of p i)) (λ a b. of_entities (codes "EN3") (x ∷ y ∷ i ∷ []) (En3 x y i) (a, (b, (j, tt))) refl))
        (λ big. two_said x y (λ t u. en3 t u i (term_of p i)) (λ t u there here. en3_past t u i big))
    entities_free (En4 e) = one_free e en4 (λ a. of_entities (codes "EN4") (e ∷ []) (En4 e) (a, tt) refl)
    entities_free (En5 e f x u) =
        four_free e f x u en5 (λ a b c d. of_entities (codes "EN5") (e ∷ f ∷ x ∷ u ∷ []) (En5 e f x u) (a, (b, (c, (d, tt)))) refl)
    entities_free (En6 a) = one_free a en6 (λ x. of_entities (codes "EN6") (a ∷ []) (En6 a) (x, tt) refl)
    entities_free (En7 s x) = two_free s x (en7 p.schema) (λ a b. of_entities (codes "EN7") (s ∷ x ∷ []) (En7 s x) (a, (b, tt)) refl)
    entities_free (En8 x) = one_free x (en8 p.schema) (λ a. of_entities (codes "EN8") (x ∷ []) (En8 x) (a, tt) refl)
    entities_free (Eq9 x) = one_free x (eq9 p.schema) (λ a. of_entities (codes "EQ9") (x ∷ []) (Eq9 x) (a, tt) refl)
