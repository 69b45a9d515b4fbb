-- Closed sets have equal values just where their equation is true, if their members have: what is asked of closed sets has the truth that
-- it has of their values.
use Rattle.std.proofs.Common.{◌≡◌, ◌==◌, ◌&&◌, inl, inr, ℕ, Bool, true, false, List, [], ◌∷◌, map, length, Option, Some, None, unwrap_or, slice_get, refl, sym, ap, ◌∙◌, subst, arith}
use Rattle.std.proofs.lemmas.Bool.Decides.{nat_tests}
use Rattle.std.specs.Cmp.Derive.{both_true}
use Rattle.std.specs.List.{AllByRecursion}
use Rattle.sc_laws.proofs.BoolLaws.{true_both}
use Rattle.sc_lists.proofs.MemberLaws.{Has-map, map-Has}
use Rattle.sc_lists.specs.Members.{Has}
use Rattle.sc_names.specs.declared.uid.Uid.{Uid}
use Rattle.sc_schema.specs.declared.declarations.Env.{Env}
use Rattle.sc_schema.specs.Declarations.{Declarations}
use Rattle.sc_values.specs.declared.value.Value.{Value}
use Rattle.sc_values.specs.declared.value.Value.TheVariants as value
use Rattle.sc_values.proofs.OutLaws as out
use Rattle.sc_sorts.specs.declared.sort.Sort.{Sort, out-Sort}
use Rattle.sc_sorts.specs.declared.sort.Sort.TheVariants as sort
use Rattle.sc_sorts.specs.contracts.sort.SortPartialEq.TheImpl.{ghosts as sorts}
use Rattle.sc_sorts.specs.Inside.{member_sort}
use Rattle.sc_sorts.specs.OrderLaws.{sort_eq_decides}
use Rattle.sc_sorts.proofs.OutLaws.{out_Set}
use Rattle.sc_sorts.specs.declared.node.BinaryOp.TheVariants as binary
use Rattle.sc_sorts.specs.declared.node.ManyOp.TheVariants as manys
use Rattle.sc_terms.specs.Trees.{Tree, leaf, one, two, choice, many, Trees}
use Rattle.sc_terms.specs.TreeSorts.{tree_sort}
use Rattle.sc_terms.specs.Folds.{equal_term}
use Rattle.sc_terms.specs.Values.{it, value_in, members_in, members_seen, set_from}
use Rattle.sc_term_laws.specs.Judging.{IsTermOf}
use Rattle.sc_term_laws.specs.Tests.{bool_level, set_level, set_of_level, is_set_of}
use Rattle.sc_term_laws.proofs.BinaryJudged.{binary_kept}
use Rattle.sc_term_laws.proofs.JudgingLaws.{sort_is, member_of}
use Rattle.sc_rule_laws.specs.Signed.{Signed, Said, so, unless, given}
use Rattle.sc_rule_laws.specs.Terms.{is_set, members, written}
use Rattle.sc_rule_laws.specs.Sets.{se1, se2, se3, se3_of, se4, se5, se6, se7, se8, se9, se9_of, se9_at, se10, se10_of, se10_at}
use Rattle.sc_rule_laws.proofs.WrittenTerms.{written_made}
use Rattle.sc_closure_rules.specs.Closure.{Closed}
use Rattle.sc_model_laws.specs.Assignments.{lit, some_hold}
use Rattle.sc_model_laws.specs.Consistent.{IsRuleAt, of_se1, of_se2, of_se3, of_se4, of_se5, of_se6, of_se7, of_se8, of_se9, of_se10}
use Rattle.sc_model_laws.specs.Vals.{Model, assigned, elements, val_of}
use Rattle.sc_model_laws.specs.Models.{IsModel}
use Rattle.sc_model_laws.proofs.ClaimLaws.{AreTerms, AreAddresses, Agrees, Claim, Straight, by_straight, bool_step, long_step, decimal_step, ip_step, string_step, entity_step}
use Rattle.sc_model_laws.proofs.ClosedLaws.{of_part, subset_closed, superset_closed, standing_equation, standing_within, first_standing, second_standing, standing_closed, missing_closed, shared_closed, candidates_equation, within_flows, common_flows}
use Rattle.sc_model_laws.proofs.CompositeClaims.{place_of, all_so, all_unless, true_unless, one_set, set_within, is_assigned, assigned_is, ruled, passed, member_plain, record_step, option_step}
use Rattle.sc_model_laws.proofs.EquationTerms.{lit_two}
use Rattle.sc_model_laws.proofs.HoldLaws.{others, second, third, only, first_of_three, none_unless, some_so}
use Rattle.sc_model_laws.proofs.SortSteps.{by_sorts}
use Rattle.sc_model_laws.proofs.ValLaws.{val_Set, is_it}

-- ---- past the last of a list

past : {X : Type 0} (xs : List X) → slice_get xs (length xs) ≡ None
past [] = refl
past (x ∷ xs) = past xs

same_number : (n : ℕ) → (n == n) ≡ true
same_number n = grind (arith, nat_tests)

module _ (d : Declarations) (env : Env) (literals : List Uid) (goal : Tree) (addresses : AreAddresses) (terms : AreTerms d env literals goal) (m : Model) (is : IsModel d env goal m) where
  abbrev IsClosed : Tree → Type 0
  IsClosed = Closed d env goal

  -- what a rule says at closed terms, of closed terms alone
  told_by : (said : Said) (parts : List Signed) → IsRuleAt d (Closed d env goal) said → said ≡ Some parts
      → AllByRecursion (λ (s : Signed). Closed d env goal s.1) parts → some_hold m.truths parts ≡ true
  told_by = ruled d env literals goal addresses terms m is

  -- a closed term for a set
  pub record IsSet (k : Sort) (x : Tree) : Type 0 where
    pub closed : Closed d env goal x
    pub sorted : tree_sort x ≡ sort.Set k

  -- what is asked of a set is of its members' sort
  pub member_sorted : (k : Sort) (x y : Tree) → IsSet k x → Closed d env goal (two binary.Member y x) → tree_sort y ≡ k
  member_sorted k x y s c =
      let test : is_set_of (tree_sort x) (tree_sort y) ≡ true =
      (binary_kept d env literals (tree_sort (two binary.Member y x)) binary.Member y x (terms.made (two binary.Member y x) c)).2 in
      let same : sorts.eq k (tree_sort y) ≡ true = ap (λ l. set_of_level l (tree_sort y)) (sym (ap out-Sort s.sorted ∙ out_Set k)) ∙ test in
      sym ((sort_eq_decides k (tree_sort y)).0 same)

  -- ---- the members of its value

  pub members_of : Sort → Tree → List Value
  members_of k x = map (λ y. value_in (val_of m k y)) (elements m x)

  pub val_members : (k : Sort) (x : Tree) → val_of m (sort.Set k) x ≡ it (value.Set (set_from (members_of k x)))
  unfolding members_of
  val_members k x = val_Set m k x

  abbrev values_at : Sort → List Tree → List Value
  values_at k us = map (λ y. value_in (val_of m k y)) us

  -- of a set term those that stand there
  pub standing_has : (k : Sort) (x t : Tree) (us : List Tree) → written x ≡ Some us → Has us t → Has (members_of k x) (value_in (val_of m k t))
  unfolding members_of
  standing_has k x t us e h =
      subst (λ (o : Option (List Tree)). Has (values_at k (unwrap_or o (assigned m x))) (value_in (val_of m k t))) (sym e) (Has-map (λ y. value_in (val_of m k y)) us t h)

  pub standing_member : (k : Sort) (x : Tree) (us : List Tree) (v : Value) → written x ≡ Some us → Has (members_of k x) v → (t : Tree) × Has us t × (value_in (val_of m k t) ≡ v)
  unfolding members_of
  standing_member k x us v e h =
      map-Has (λ y. value_in (val_of m k y)) us v (subst (λ (o : Option (List Tree)). Has (values_at k (unwrap_or o (assigned m x))) v) e h)

  -- of another those that are assigned to it
  plain_has : (k : Sort) (x y : Tree) → written x ≡ None → Closed d env goal (two binary.Member y x) → lit m.truths (two binary.Member y x) ≡ true → Has (members_of k x) (value_in (val_of m k y))
  unfolding members_of
  plain_has k x y e c t =
      subst (λ (o : Option (List Tree)). Has (values_at k (unwrap_or o (assigned m x))) (value_in (val_of m k y))) (sym e)
      (Has-map (λ y. value_in (val_of m k y)) (assigned m x) y
      (assigned_is d env literals goal addresses terms m is x y c (sym (lit_two m.truths binary.Member y x) ∙ t)))

  record IsMember (k : Sort) (x : Tree) (v : Value) : Type 0 where
    term : Tree
    closed : Closed d env goal (two binary.Member term x)
    so_assigned : lit m.truths (two binary.Member term x) ≡ true
    value_is : value_in (val_of m k term) ≡ v

  plain_member : (k : Sort) (x : Tree) (v : Value) → written x ≡ None → Has (members_of k x) v → IsMember k x v
  unfolding members_of
  plain_member k x v e h =
      let y = map-Has (λ y. value_in (val_of m k y)) (assigned m x) v (subst (λ (o : Option (List Tree)). Has (values_at k (unwrap_or o (assigned m x))) v) e h) in
      let r = is_assigned d env literals goal addresses terms m is x y.0 y.1 in
      record { term = y.0; closed = r.0; so_assigned = lit_two m.truths binary.Member y.0 x ∙ r.1; value_is = y.2 }

  module _ (k : Sort) (known : Claim d env literals goal addresses terms m is k) where
    same_vals : (a x y : Tree) → IsSet k a → value_in (val_of m k x) ≡ value_in (val_of m k y) → val_of m k x ≡ val_of m k y
    same_vals a x y s e =
        let plain = member_plain d env literals goal addresses terms m is k a s.sorted s.closed in
        is_it m k x plain ∙ ap it e ∙ sym (is_it m k y plain)

    agree : (x y : Tree) → tree_sort x ≡ k → tree_sort y ≡ k → Closed d env goal x → Closed d env goal y → Closed d env goal (equal_term x y)
        → Agrees d env literals goal addresses terms m is k x y
    agree x y e f c h q = known x y (record { first = c; second = h; first_sort = e; second_sort = f }) q

    -- ---- whether a term is a member

    pub record IsAsked (x a : Tree) : Type 0 where
      pub told : lit m.truths (two binary.Member x a) ≡ true → Has (members_of k a) (value_in (val_of m k x))
      pub back : Has (members_of k a) (value_in (val_of m k x)) → lit m.truths (two binary.Member x a) ≡ true

    first_part : (x a : Tree) → Closed d env goal (two binary.Member x a) → Closed d env goal x
    first_part x a c = of_part d env goal (two binary.Member x a) x c (inl refl)

    plain_asked : (x a : Tree) → written a ≡ None → IsSet k a → Closed d env goal (two binary.Member x a) → IsAsked x a
    plain_asked x a w s c = record {
      told = λ t. plain_has k a x w c t;
      back = λ h.
          let y = plain_member k a (value_in (val_of m k x)) w h in
          let q = candidates_equation d env goal y.term x a w y.closed c in
          third m.truths false false true (equal_term y.term x) (two binary.Member y.term a) (two binary.Member x a)
          (told_by (se1 y.term x a) (unless (equal_term y.term x) ∷ unless (two binary.Member y.term a) ∷ so (two binary.Member x a) ∷ [])
          (of_se1 y.term x a (first_part y.term a y.closed) (first_part x a c) s.closed) refl (q, (y.closed, (c, tt))))
          ((agree y.term x (member_sorted k a y.term s y.closed) (member_sorted k a x s c) (first_part y.term a y.closed) (first_part x a c) q).told (same_vals a y.term x s y.value_is))
          y.so_assigned;
    }

    set_sort : (j : Sort) (ts : Trees) → tree_sort (many (manys.Set j) ts) ≡ sort.Set j
    unfolding tree_sort
    set_sort j ts = refl

    module _ (x : Tree) (j : Sort) (ts : Trees) (s : IsSet k (many (manys.Set j) ts)) (c : Closed d env goal (two binary.Member x (many (manys.Set j) ts))) where
      own : sorts.eq (tree_sort x) j ≡ true
      own =
          let same : k ≡ j = sym (member_of k) ∙ ap member_sort (sym s.sorted ∙ set_sort j ts) ∙ member_of j in
          (sort_eq_decides (tree_sort x) j).1 (member_sorted k (many (manys.Set j) ts) x s c ∙ same)

      stands : (u : Tree) → Has (members ts) u → Agrees d env literals goal addresses terms m is k x u
      stands u h =
          let made = written_made d env literals k (many (manys.Set j) ts) (members ts) u (subst (λ (l : Sort). IsTermOf d env literals l (many (manys.Set j) ts)) s.sorted (terms.made (many (manys.Set j) ts) s.closed)) refl h in
          agree x u (member_sorted k (many (manys.Set j) ts) x s c) (sort_is d env literals k u made) (first_part x (many (manys.Set j) ts) c)
          (standing_closed d env goal (many (manys.Set j) ts) u (members ts) refl s.closed h)
          (standing_equation d env goal x (many (manys.Set j) ts) u (members ts) refl c h)

      set_asked : IsAsked x (many (manys.Set j) ts)
      set_asked = record {
        told = λ t.
            let rest : List Signed = map (λ u. so (equal_term x u)) (members ts) in
            let parts : List Signed = unless (two binary.Member x (many (manys.Set j) ts)) ∷ map (λ u. so (equal_term x u)) (members ts) in
            let found = some_so m.truths (equal_term x) (members ts)
            (others m.truths false (two binary.Member x (many (manys.Set j) ts)) rest
            (told_by (se2 x (many (manys.Set j) ts)) parts (of_se2 x (many (manys.Set j) ts) (first_part x (many (manys.Set j) ts) c) s.closed)
            (passed d env literals goal addresses terms m is (sorts.eq (tree_sort x) j) parts own)
            (c, all_so (Closed d env goal) (equal_term x) (members ts) (λ u h. standing_equation d env goal x (many (manys.Set j) ts) u (members ts) refl c h))) t) in
            subst (λ v. Has (members_of k (many (manys.Set j) ts)) (value_in v)) (sym ((stands found.0 found.1).same found.2))
            (standing_has k (many (manys.Set j) ts) found.0 (members ts) refl found.1);
        back = λ h.
            let u = standing_member k (many (manys.Set j) ts) (members ts) (value_in (val_of m k x)) refl h in
            let place = place_of (members ts) u.0 u.1 in
            second m.truths false true (equal_term x u.0) (two binary.Member x (many (manys.Set j) ts))
            (told_by (se3 x (many (manys.Set j) ts) place.0) (unless (equal_term x u.0) ∷ so (two binary.Member x (many (manys.Set j) ts)) ∷ [])
            (of_se3 x (many (manys.Set j) ts) place.0 (first_part x (many (manys.Set j) ts) c) s.closed) (ap (se3_of x (many (manys.Set j) ts)) place.1)
            (standing_equation d env goal x (many (manys.Set j) ts) u.0 (members ts) refl c u.1, (c, tt)))
            ((stands u.0 u.1).told (same_vals (many (manys.Set j) ts) x u.0 s (sym u.2)));
      }

    pub asked : (x a : Tree) → IsSet k a → Closed d env goal (two binary.Member x a) → IsAsked x a
    asked x (many (manys.Set j) ts) s c = set_asked x j ts s c
    asked x (many manys.Record ts) s c = plain_asked x (many manys.Record ts) refl s c
    asked x (leaf l) s c = plain_asked x (leaf l) refl s c
    asked x (one o a) s c = plain_asked x (one o a) refl s c
    asked x (two o a b) s c = plain_asked x (two o a b) refl s c
    asked x (choice i a b) s c = plain_asked x (choice i a b) refl s c

    -- ---- whether a set is within another

    module _ (x y : Tree) (s : IsSet k x) (r : IsSet k y) (c : Closed d env goal (two binary.Subset x y)) where
      included_by : (v : Value) → lit m.truths (two binary.Subset x y) ≡ true → Has (members_of k x) v → (o : Option (List Tree)) → written x ≡ o → Has (members_of k y) v
      included_by v t h None e =
          let a = plain_member k x v e h in
          let q = within_flows d env goal a.term x y e a.closed c in
          subst (Has (members_of k y)) a.value_is
          ((asked a.term y r q).told
          (third m.truths false false true (two binary.Subset x y) (two binary.Member a.term x) (two binary.Member a.term y)
          (told_by (se4 x y a.term) (unless (two binary.Subset x y) ∷ unless (two binary.Member a.term x) ∷ so (two binary.Member a.term y) ∷ [])
          (of_se4 x y a.term s.closed r.closed (first_part a.term x a.closed)) refl (c, (a.closed, (q, tt)))) t a.so_assigned))
      included_by v t h (Some us) e =
          let u = standing_member k x us v e h in
          let place = place_of us u.0 u.1 in
          let q = standing_within d env goal x y u.0 us e c u.1 in
          subst (Has (members_of k y)) u.2
          ((asked u.0 y r q).told
          (second m.truths false true (two binary.Subset x y) (two binary.Member u.0 y)
          (told_by (se9 x y place.0) (unless (two binary.Subset x y) ∷ so (two binary.Member u.0 y) ∷ []) (of_se9 x y place.0 s.closed r.closed)
          (ap (λ (o : Option (List Tree)). se9_of o x y place.0) e ∙ ap (se9_at x y us place.0) place.1) (c, (q, tt))) t))

      inclusion_by : ((v : Value) → Has (members_of k x) v → Has (members_of k y) v) → (o : Option (List Tree)) → written x ≡ o → lit m.truths (two binary.Subset x y) ≡ true
      inclusion_by h None e =
          let pick : Tree = two binary.DifferencePick x y in
          let near = missing_closed d env goal x y (two binary.Member (two binary.DifferencePick x y) x) e c (inr (inl refl)) in
          let far = missing_closed d env goal x y (two binary.Member (two binary.DifferencePick x y) y) e c (inr (inr (inl refl))) in
          true_unless (lit m.truths (two binary.Subset x y)) (λ f.
          let inside = second m.truths true true (two binary.Subset x y) (two binary.Member (two binary.DifferencePick x y) x)
          (told_by (se5 x y 0) (so (two binary.Subset x y) ∷ so (two binary.Member (two binary.DifferencePick x y) x) ∷ []) (of_se5 x y 0 s.closed r.closed) refl (c, (near, tt))) f in
          let outside = second m.truths true false (two binary.Subset x y) (two binary.Member (two binary.DifferencePick x y) y)
          (told_by (se5 x y 1) (so (two binary.Subset x y) ∷ unless (two binary.Member (two binary.DifferencePick x y) y) ∷ []) (of_se5 x y 1 s.closed r.closed) refl (c, (far, tt))) f in
          true_both (lit m.truths (two binary.Member (two binary.DifferencePick x y) y))
          ((asked pick y r far).back (h (value_in (val_of m k (two binary.DifferencePick x y))) ((asked pick x s near).told inside))) outside)
      inclusion_by h (Some us) e =
          let rest : List Signed = map (λ u. unless (two binary.Member u y)) us in
          let parts : List Signed = so (two binary.Subset x y) ∷ map (λ u. unless (two binary.Member u y)) us in
          let said : se9 x y (length us) ≡ Some parts =
          ap (λ (o : Option (List Tree)). se9_of o x y (length us)) e ∙ ap (se9_at x y us (length us)) (past us) ∙ ap (λ (t : Bool). given t parts) (same_number (length us)) in
          only m.truths true (two binary.Subset x y) rest
          (told_by (se9 x y (length us)) parts (of_se9 x y (length us) s.closed r.closed) said
          (c, all_unless (Closed d env goal) (λ u. two binary.Member u y) us (λ u n. standing_within d env goal x y u us e c n)))
          (none_unless m.truths (λ u. two binary.Member u y) us (λ u n.
          (asked u y r (standing_within d env goal x y u us e c n)).back (h (value_in (val_of m k u)) (standing_has k x u us e n))))

    pub included : (x y : Tree) → IsSet k x → IsSet k y → Closed d env goal (two binary.Subset x y) → lit m.truths (two binary.Subset x y) ≡ true
        → (v : Value) → Has (members_of k x) v → Has (members_of k y) v
    included x y s r c t v h = included_by x y s r c v t h (written x) refl

    pub inclusion : (x y : Tree) → IsSet k x → IsSet k y → Closed d env goal (two binary.Subset x y)
        → ((v : Value) → Has (members_of k x) v → Has (members_of k y) v) → lit m.truths (two binary.Subset x y) ≡ true
    inclusion x y s r c h = inclusion_by x y s r c h (written x) refl

    -- ---- whether sets have a member in common

    -- those that stand in a set term tell it
    module _ (t x y : Tree) (us : List Tree) (stand : written x ≡ Some us) (r : IsSet k y) (c : Closed d env goal t) (each : (u : Tree) → Has us u → Closed d env goal (two binary.Member u y))
        (rule : (i : ℕ) (parts : List Signed) → se10_at t us y i (slice_get us i) ≡ Some parts → AllByRecursion (λ (z : Signed). Closed d env goal z.1) parts → some_hold m.truths parts ≡ true) where
      some_shared : lit m.truths t ≡ true → (v : Value) × Has (members_of k x) v × Has (members_of k y) v
      some_shared e =
          let rest : List Signed = map (λ u. so (two binary.Member u y)) us in
          let parts : List Signed = unless t ∷ map (λ u. so (two binary.Member u y)) us in
          let said : se10_at t us y (length us) (slice_get us (length us)) ≡ Some parts =
          ap (se10_at t us y (length us)) (past us) ∙ ap (λ (b : Bool). given b parts) (same_number (length us)) in
          let found = some_so m.truths (λ u. two binary.Member u y) us
          (others m.truths false t rest (rule (length us) parts said (c, all_so (Closed d env goal) (λ u. two binary.Member u y) us each)) e) in
          (value_in (val_of m k found.0), standing_has k x found.0 us stand found.1, (asked found.0 y r (each found.0 found.1)).told found.2)

      shared_some : (v : Value) → Has (members_of k x) v → Has (members_of k y) v → lit m.truths t ≡ true
      shared_some v h i =
          let u = standing_member k x us v stand h in
          let place = place_of us u.0 u.1 in
          let q = each u.0 u.1 in
          true_unless (lit m.truths t) (λ f.
          true_both (lit m.truths (two binary.Member u.0 y)) ((asked u.0 y r q).back (subst (Has (members_of k y)) (sym u.2) i))
          (second m.truths true false t (two binary.Member u.0 y)
          (rule place.0 (so t ∷ unless (two binary.Member u.0 y) ∷ []) (ap (se10_at t us y place.0) place.1) (c, (q, tt))) f))

    module _ (x y : Tree) (s : IsSet k x) (r : IsSet k y) (c : Closed d env goal (two binary.Common x y)) where
      rule_by : (o p : Option (List Tree)) → written x ≡ o → written y ≡ p → (i : ℕ) (parts : List Signed) → se10_of o p x y i ≡ Some parts
          → AllByRecursion (λ (z : Signed). Closed d env goal z.1) parts → some_hold m.truths parts ≡ true
      rule_by o p e f i parts h all = told_by (se10 x y i) parts (of_se10 x y i s.closed r.closed) ((λ j. se10_of (e j) (f j) x y i) ∙ h) all

      shares_by : (o p : Option (List Tree)) → written x ≡ o → written y ≡ p → lit m.truths (two binary.Common x y) ≡ true → (v : Value) × Has (members_of k x) v × Has (members_of k y) v
      shares_by None None e f t =
          let pick : Tree = two binary.CommonPick x y in
          let near = shared_closed d env goal x y (two binary.Member (two binary.CommonPick x y) x) e f c (inr (inl refl)) in
          let far = shared_closed d env goal x y (two binary.Member (two binary.CommonPick x y) y) e f c (inr (inr (inl refl))) in
          let inside = second m.truths false true (two binary.Common x y) (two binary.Member (two binary.CommonPick x y) x)
          (told_by (se6 x y 0) (unless (two binary.Common x y) ∷ so (two binary.Member (two binary.CommonPick x y) x) ∷ []) (of_se6 x y 0 s.closed r.closed) refl (c, (near, tt))) t in
          let too = second m.truths false true (two binary.Common x y) (two binary.Member (two binary.CommonPick x y) y)
          (told_by (se6 x y 1) (unless (two binary.Common x y) ∷ so (two binary.Member (two binary.CommonPick x y) y) ∷ []) (of_se6 x y 1 s.closed r.closed) refl (c, (far, tt))) t in
          (value_in (val_of m k pick), (asked pick x s near).told inside, (asked pick y r far).told too)
      shares_by (Some us) p e f t =
          some_shared (two binary.Common x y) x y us e r c (λ u n. first_standing d env goal x y u us e c n) (rule_by (Some us) p e f) t
      shares_by None (Some us) e f t =
          let v = some_shared (two binary.Common x y) y x us f s c (λ u n. second_standing d env goal x y u us e f c n) (rule_by None (Some us) e f) t in
          (v.0, v.2, v.1)

      sharing_by : (o p : Option (List Tree)) → written x ≡ o → written y ≡ p → (v : Value) → Has (members_of k x) v → Has (members_of k y) v → lit m.truths (two binary.Common x y) ≡ true
      sharing_by None None e f v h i =
          let a = plain_member k x v e h in
          let q = common_flows d env goal a.term x y e f a.closed c in
          third m.truths false false true (two binary.Member a.term x) (two binary.Member a.term y) (two binary.Common x y)
          (told_by (se7 x y a.term) (unless (two binary.Member a.term x) ∷ unless (two binary.Member a.term y) ∷ so (two binary.Common x y) ∷ [])
          (of_se7 x y a.term s.closed r.closed (first_part a.term x a.closed)) refl (a.closed, (q, (c, tt)))) a.so_assigned
          ((asked a.term y r q).back (subst (Has (members_of k y)) (sym a.value_is) i))
      sharing_by (Some us) p e f v h i =
          shared_some (two binary.Common x y) x y us e r c (λ u n. first_standing d env goal x y u us e c n) (rule_by (Some us) p e f) v h i
      sharing_by None (Some us) e f v h i =
          shared_some (two binary.Common x y) y x us f s c (λ u n. second_standing d env goal x y u us e f c n) (rule_by None (Some us) e f) v i h

    pub shares : (x y : Tree) → IsSet k x → IsSet k y → Closed d env goal (two binary.Common x y) → lit m.truths (two binary.Common x y) ≡ true
        → (v : Value) × Has (members_of k x) v × Has (members_of k y) v
    shares x y s r c t = shares_by x y s r c (written x) (written y) refl refl t

    pub sharing : (x y : Tree) → IsSet k x → IsSet k y → Closed d env goal (two binary.Common x y) → (v : Value) → Has (members_of k x) v → Has (members_of k y) v
        → lit m.truths (two binary.Common x y) ≡ true
    sharing x y s r c v h i = sharing_by x y s r c (written x) (written y) refl refl v h i

    -- ---- equations

    is_set_of_sort : (x : Tree) → IsSet k x → is_set x ≡ true
    is_set_of_sort x s = ap set_level (ap out-Sort s.sorted ∙ out_Set k)

    set_agrees : Straight d env literals goal addresses terms m is (sort.Set k)
    set_agrees x y p c e =
        let s : IsSet k x = record { closed = p.first; sorted = p.first_sort } in
        let r : IsSet k y = record { closed = p.second; sorted = p.second_sort } in
        let whole : Closed d env goal (equal_term x y) = subst (Closed d env goal) (sym e) c in
        let down : Closed d env goal (two binary.Subset x y) = subset_closed d env goal k x y p.first_sort c in
        let up : Closed d env goal (two binary.Subset y x) = superset_closed d env goal k x y p.first_sort c in
        record {
          same = λ t.
              let ordered : set_from (members_of k x) ≡ set_from (members_of k y) =
              one_set (members_of k x) (members_of k y)
              (included x y s r down (second m.truths false true (equal_term x y) (two binary.Subset x y)
              (told_by (se8 x y 0) (unless (equal_term x y) ∷ so (two binary.Subset x y) ∷ []) (of_se8 x y 0 p.first p.second) refl (whole, (down, tt))) t))
              (included y x r s up (second m.truths false true (equal_term x y) (two binary.Subset y x)
              (told_by (se8 x y 1) (unless (equal_term x y) ∷ so (two binary.Subset y x) ∷ []) (of_se8 x y 1 p.first p.second) refl (whole, (up, tt))) t)) in
              val_members k x ∙ ap (λ vs. it (value.Set vs)) ordered ∙ sym (val_members k y);
          told = λ t.
              let ordered : set_from (members_of k x) ≡ set_from (members_of k y) =
              sym (ap members_seen (out.out_Set (set_from (members_of k x)))) ∙ ap members_in (sym (val_members k x) ∙ t ∙ val_members k y) ∙ ap members_seen (out.out_Set (set_from (members_of k y))) in
              let parts : List Signed = so (equal_term x y) ∷ unless (two binary.Subset x y) ∷ unless (two binary.Subset y x) ∷ [] in
              let sets : (is_set x && is_set y) ≡ true = both_true (is_set_of_sort x s) (is_set_of_sort y r) in
              first_of_three m.truths true false false (equal_term x y) (two binary.Subset x y) (two binary.Subset y x)
              (told_by (se8 x y 2) parts (of_se8 x y 2 p.first p.second) (passed d env literals goal addresses terms m is (is_set x && is_set y) parts sets) (whole, (down, (up, tt))))
              (inclusion x y s r down (set_within (members_of k x) (members_of k y) ordered))
              (inclusion y x r s up (set_within (members_of k y) (members_of k x) (sym ordered)));
        }

    set_step : Claim d env literals goal addresses terms m is (sort.Set k)
    set_step = by_straight d env literals goal addresses terms m is (sort.Set k) (ap bool_level (out_Set k)) set_agrees

  -- ---- all sorts

  pub claims : (k : Sort) → Claim d env literals goal addresses terms m is k
  claims = by_sorts (Claim d env literals goal addresses terms m is) (record {
    on_bool = bool_step d env literals goal addresses terms m is;
    on_long = long_step d env literals goal addresses terms m is;
    on_string = string_step d env literals goal addresses terms m is;
    on_decimal = decimal_step d env literals goal addresses terms m is;
    on_ip = ip_step d env literals goal addresses terms m is;
    on_entity = entity_step d env literals goal addresses terms m is;
    on_set = set_step;
    on_record = record_step d env literals goal addresses terms m is;
    on_option = option_step d env literals goal addresses terms m is;
  })
