-- The rules of sets are true in every world; SE2 where members are no options, SE8 where sets are sets.
use Rattle.std.proofs.Common.{◌≡◌, ◌&&◌, ℕ, zero, suc, true, false, List, [], slice_get, Option, Some, None, refl, sym, ap, ◌∙◌, subst, Contains}
use Rattle.std.proofs.lemmas.Bool.{and_parts}
use Rattle.sc_lists.proofs.MemberLaws.{Has-from_Contains, Contains-from_Has}
use Rattle.sc_lists.specs.Members.{Has}
use Rattle.sc_laws.proofs.BoolLaws.{never}
use Rattle.sc_lists.proofs.ListLaws.{contains_place}
use Rattle.sc_values.specs.declared.value.Value.{Value}
use Rattle.sc_values.specs.declared.value.Value.TheVariants as value
use Rattle.sc_values.proofs.AscendingLaws.{one_list}
use Rattle.sc_values.proofs.OrderLaws.{value_cmp_total, value_cmp_exact}
use Rattle.sc_values.proofs.OutLaws.{out_Set}
use Rattle.sc_world.specs.declared.world.World.{World}
use Rattle.sc_sorts.specs.declared.sort.Sort.{Sort}
use Rattle.sc_sorts.specs.contracts.sort.SortPartialEq.TheImpl.{ghosts as sorts}
use Rattle.sc_sorts.specs.declared.node.ManyOp.TheVariants as manys
use Rattle.sc_terms.specs.Trees.{Tree, leaf, one, two, choice, many, Trees}
use Rattle.sc_terms.specs.TreeSorts.{tree_sort}
use Rattle.sc_terms.specs.Folds.{equal_term}
use Rattle.sc_terms.specs.Values.{Val, it, val, value_in, members_in, members_seen, has_member, is_maybe}
use Rattle.sc_rule_laws.specs.Signed.{Holds, is_true}
use Rattle.sc_rule_laws.specs.Terms.{is_set, member, subset, common, missing, shared, members}
use Rattle.sc_rule_laws.specs.Sets.{se1, se2, se3_of, se3, se4, se5, se6, se7, se8}
use Rattle.sc_rule_laws.proofs.ClauseLaws.{unless_else, so_else, so_holds, unless_holds, one_of, given_holds}
use Rattle.sc_rule_laws.proofs.SortValues.{IsASet}
use Rattle.sc_rule_laws.proofs.EquationLaws.{is_equal, equal_so}
use Rattle.sc_rule_laws.proofs.MemberTruths.{term_has, has_term, member_is, is_member, member_so, member_moves, is_subset, subset_so, common_so, missing_is, shared_is}

-- a value, and no option
plain_one : (x : Val) → is_maybe x ≡ false → x ≡ it (value_in x)
plain_one (it v) e = refl
plain_one x e = absurd cc

module _ (w : World) where
  pub se1_holds : (x y s : Tree) → Holds w (se1 x y s)
  se1_holds x y s =
      unless_else w (equal_term x y) _ (λ e. unless_else w (member x s) _ (λ f. so_holds w (member y s) []
      (member_moves w x y s s (ap value_in (is_equal w x y e)) (λ v h. h) f)))

  -- ---- set terms

  -- neither a term nor one that stands in a set is an option
  pub record ArePlain (x : Tree) (ts : Trees) : Type 0 where
    pub own : is_maybe (val x w) ≡ false
    pub each : (t : Tree) → Has (members ts) t → is_maybe (val t w) ≡ false

  se2_at : (x : Tree) (k : Sort) (ts : Trees) → (sorts.eq (tree_sort x) k ≡ true → ArePlain x ts) → Holds w (se2 x (many (manys.Set k) ts))
  se2_at x k ts plain = given_holds w (sorts.eq (tree_sort x) k) _ (λ e.
      let ok = plain e in
      unless_else w (member x (many (manys.Set k) ts)) _ (λ f.
      let one = term_has k ts w (value_in (val x w)) (is_member w x (many (manys.Set k) ts) f) in
      one_of w (equal_term x) (members ts) one.term one.there
      (equal_so w x one.term (plain_one (val x w) ok.own ∙ ap it (sym one.value_is) ∙ sym (plain_one (val one.term w) (ok.each one.term one.there))))))

  pub se2_holds : (x s : Tree) → ((k : Sort) (ts : Trees) → s ≡ many (manys.Set k) ts → sorts.eq (tree_sort x) k ≡ true → ArePlain x ts) → Holds w (se2 x s)
  se2_holds x (many (manys.Set k) ts) plain = se2_at x k ts (plain k ts refl)
  se2_holds x (many manys.Record ts) plain = tt
  se2_holds x (leaf l) plain = tt
  se2_holds x (one o a) plain = tt
  se2_holds x (two o a b) plain = tt
  se2_holds x (choice c a b) plain = tt

  se3_at : (x : Tree) (k : Sort) (ts : Trees) (o : Option Tree) → ((t : Tree) → o ≡ Some t → Has (members ts) t) → Holds w (se3_of x (many (manys.Set k) ts) o)
  se3_at x k ts None there = tt
  se3_at x k ts (Some t) there =
      unless_else w (equal_term x t) _ (λ e. so_holds w (member x (many (manys.Set k) ts)) []
      (member_so w x (many (manys.Set k) ts) (subst (Has (members_in (val (many (manys.Set k) ts) w))) (ap value_in (sym (is_equal w x t e))) (has_term k ts w t (there t refl)))))

  pub se3_holds : (x s : Tree) (i : ℕ) → Holds w (se3 x s i)
  se3_holds x (many (manys.Set k) ts) i = se3_at x k ts (slice_get (members ts) i) (λ t e. Has-from_Contains (members ts) t (contains_place (members ts) i t e))
  se3_holds x (many manys.Record ts) i = tt
  se3_holds x (leaf l) i = tt
  se3_holds x (one o a) i = tt
  se3_holds x (two o a b) i = tt
  se3_holds x (choice c a b) i = tt

  -- ---- two sets

  pub se4_holds : (s t x : Tree) → Holds w (se4 s t x)
  se4_holds s t x =
      unless_else w (subset s t) _ (λ e. unless_else w (member x s) _ (λ f. so_holds w (member x t) [] (member_moves w x x s t refl (is_subset w s t e) f)))

  pub se5_holds : (s t : Tree) (i : ℕ) → Holds w (se5 s t i)
  se5_holds s t zero =
      so_else w (subset s t) _ (λ e.
      let (v, is, there, out) = missing_is w s t e in
      so_holds w (member (missing s t) s) [] (member_so w (missing s t) s (subst (Has (members_in (val s w))) (ap value_in (sym is)) there)))
  se5_holds s t (suc zero) =
      so_else w (subset s t) _ (λ e.
      let (v, is, there, out) = missing_is w s t e in
      unless_holds w (member (missing s t) t) [] (member_is w (missing s t) t ∙ ap (λ (z : Val). has_member (members_in (val t w)) (value_in z)) is ∙ out))
  se5_holds s t (suc (suc i)) = tt

  pub se6_holds : (s t : Tree) (i : ℕ) → Holds w (se6 s t i)
  se6_holds s t zero =
      unless_else w (common s t) _ (λ e.
      let (v, is, in_s, in_t) = shared_is w s t e in
      so_holds w (member (shared s t) s) [] (member_so w (shared s t) s (subst (Has (members_in (val s w))) (ap value_in (sym is)) in_s)))
  se6_holds s t (suc zero) =
      unless_else w (common s t) _ (λ e.
      let (v, is, in_s, in_t) = shared_is w s t e in
      so_holds w (member (shared s t) t) [] (member_so w (shared s t) t (subst (Has (members_in (val t w))) (ap value_in (sym is)) in_t)))
  se6_holds s t (suc (suc i)) = tt

  pub se7_holds : (s t x : Tree) → Holds w (se7 s t x)
  se7_holds s t x =
      unless_else w (member x s) _ (λ e. unless_else w (member x t) _ (λ f. so_holds w (common s t) []
      (common_so w s t (value_in (val x w)) (is_member w x s e) (is_member w x t f))))

  -- ---- equations of sets

  members_of : (s : Tree) (us : List Value) → val s w ≡ it (value.Set us) → members_in (val s w) ≡ us
  members_of s us e = ap members_in e ∙ ap members_seen (out_Set us)

  one_way : (s t : Tree) (us vs : List Value) → val s w ≡ it (value.Set us) → val t w ≡ it (value.Set vs) → is_true (subset s t) w ≡ true → (v : Value) → Contains us v → Contains vs v
  one_way s t us vs e f h v c =
      Contains-from_Has vs v (subst (λ (ms : List Value). Has ms v) (members_of t vs f)
      (is_subset w s t h v (subst (λ (ms : List Value). Has ms v) (sym (members_of s us e)) (Has-from_Contains us v c))))

  subsets_equal : (s t : Tree) → IsASet (val s w) → IsASet (val t w) → is_true (subset s t) w ≡ true → is_true (subset t s) w ≡ true → val s w ≡ val t w
  subsets_equal s t h k e f =
      let same : h.members_are ≡ k.members_are =
      one_list value_cmp_total value_cmp_exact h.members_are k.members_are h.ascending k.ascending
      (λ v. (one_way s t h.members_are k.members_are h.is k.is e v, one_way t s k.members_are h.members_are k.is h.is f v)) in
      h.is ∙ ap (λ us. it (value.Set us)) same ∙ sym k.is

  pub se8_holds : (s t : Tree) (i : ℕ) → (is_set s ≡ true → IsASet (val s w)) → (is_set t ≡ true → IsASet (val t w)) → Holds w (se8 s t i)
  se8_holds s t zero h k =
      unless_else w (equal_term s t) _ (λ e. so_holds w (subset s t) [] (subset_so w s t (λ v n. subst (λ (x : Val). Has (members_in x) v) (is_equal w s t e) n)))
  se8_holds s t (suc zero) h k =
      unless_else w (equal_term s t) _ (λ e. so_holds w (subset t s) [] (subset_so w t s (λ v n. subst (λ (x : Val). Has (members_in x) v) (sym (is_equal w s t e)) n)))
  se8_holds s t (suc (suc zero)) h k = given_holds w (is_set s && is_set t) _ (λ b.
      let tests = and_parts (is_set s) (is_set t) b in
      so_else w (equal_term s t) _ (λ e. unless_else w (subset s t) _ (λ f. unless_else w (subset t s) _ (λ d.
      never _ (sym (equal_so w s t (subsets_equal s t (h tests.0) (k tests.1) f d)) ∙ e)))))
  se8_holds s t (suc (suc (suc i))) h k = tt
