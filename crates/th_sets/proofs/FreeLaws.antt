-- None of the instances that closed terms name is falsified, once each term was looked at.
use Rattle.std.proofs.Common.{◌≡◌, ◌<◌, ◌≤◌, ◌+◌, ℕ, zero, suc, false, List, length, Option, Some, None, IfNone, refl, sym, ap, ◌∙◌, subst, arith, ⊎_elim}
use Rattle.std.specs.List.{AllByRecursion}
use Rattle.std.proofs.lemmas.Bool.{cases_lt}
use Rattle.std.proofs.lemmas.List.{length-map}
use Rattle.std.proofs.lemmas.Option.{slice_get_past}
use Rattle.sc_clauses.specs.Assignments.{Assignment}
use Rattle.sc_sorts.specs.declared.node.ManyOp.TheVariants as manys
use Rattle.sc_sorts.specs.declared.node.Node.{Node}
use Rattle.sc_rule_instances.specs.declared.rule.SetRule.{SetRule}
use Rattle.sc_rule_instances.specs.declared.rule.SetRule.TheVariants.{Se2, Se3, Se9, Se10}
use Rattle.sc_terms.specs.Trees.{Tree, leaf, one, two, choice, many}
use Rattle.sc_terms.specs.Tables.{tree, Places}
use Rattle.sc_footprint.specs.Problems.{Posed, closed_terms, numbered, term_of}
use Rattle.sc_footprint.proofs.NumberingLaws.{at_suc, numbered_map}
use Rattle.sc_rule_laws.specs.Sets.{se3, se3_of}
use Rattle.sc_rule_laws.specs.Terms.{members}
use Rattle.sc_rule_instances.specs.Instances.{on_two}
use Rattle.sc_rule_instances.specs.Known.{is_falsified}
use Rattle.sc_rule_instances.specs.Lookups.{IsMembers}
use Rattle.th_sets.specs.declared.named.Named.{Named}
use Rattle.th_sets.specs.declared.named.Named.TheVariants.{Other}
use Rattle.th_sets.specs.Free.{IsFree, IsBesideFree, IsMemberFree, IsSubsetFree, IsCommonFree, AreFirstFree, by_subset, by_common, member_count}
use Rattle.th_sets.specs.Named.{named_if, named_at, AreFirst}
use Rattle.th_sets.proofs.RowLaws.{members_length}

-- ---- what closed terms name, one more at a time

module _ (p : Posed) (P : Named → Type 0) where
  pub first_none : AreFirst p P 0
  unfolding AreFirst
  first_none n less = absurd (omega (arith, less))

  pub first_more : (n : ℕ) (by : Named) → by ≡ named_at p (n + 1) → P by → AreFirst p P n → AreFirst p P (n + 1)
  unfolding AreFirst
  first_more n by is here before k less =
      ⊎_elim (before k) (λ (past : n ≤ k). let same : n ≡ k = omega (arith, past, less) in subst (λ i. P (named_at p (i + 1))) same (subst P is here)) (cases_lt k n)

  pub first_all : (count : ℕ) → length p.closed ≤ count → P Other → AreFirst p P count → (n : ℕ) → P (named_at p n)
  unfolding AreFirst
  first_all count all other h zero = other
  first_all count all other h (suc k) = ⊎_elim (λ (less : k < count). let e : k + 1 ≡ suc k = omega arith in subst (λ i. P (named_at p i)) e (h k less)) past (cases_lt k count)
    where
      past : count ≤ k → P (named_at p (suc k))
      past far =
          let none : numbered (closed_terms p) (suc k) ≡ None = at_suc (closed_terms p) k ∙ slice_get_past (closed_terms p) k (let e = length-map p.closed (tree p.nodes) in omega (arith, all, far, e)) in
          subst (λ (o : Option Tree). P (named_if p o)) (sym (numbered_map (tree p.nodes) p.closed (suc k) ∙ none)) other

-- ---- a rule at those that stand in a set term, one more at a time

module _ (p : Posed) (m : Assignment) (rule : ℕ → SetRule) where
  pub none_standing : AreFirstFree p m rule 0
  unfolding AreFirstFree
  none_standing i less = absurd (omega (arith, less))

  pub one_standing : (i : ℕ) → IsFree p m (rule i) → AreFirstFree p m rule i → AreFirstFree p m rule (i + 1)
  unfolding AreFirstFree
  one_standing i here before k less =
      ⊎_elim (before k) (λ (past : i ≤ k). let same : i ≡ k = omega (arith, past, less) in subst (λ j. IsFree p m (rule j)) same here) (cases_lt k i)

  pub all_standing : (i n : ℕ) → n ≤ i → AreFirstFree p m rule i → AreFirstFree p m rule n
  unfolding AreFirstFree
  all_standing i n far before k less = before k (omega (arith, far, less))

-- ---- SE3

pub member_count_of : (xs : List Node) (t : Tree) (ps : Places) → IsMembers xs t (Some ps) → length ps ≡ member_count (Some t)
member_count_of xs t ps (k, is, below) = sym (ap (λ (u : Tree). member_count (Some u)) is ∙ members_length xs ps)

module _ (p : Posed) (m : Assignment) (x s : ℕ) where
  -- past the last nothing stands
  se3_past : (t u : Tree) (i : ℕ) → member_count (Some u) ≤ i → se3 t u i ≡ None
  se3_past t (leaf l) i h = refl
  se3_past t (one o a) i h = refl
  se3_past t (two o a b) i h = refl
  se3_past t (choice c a b) i h = refl
  se3_past t (many (manys.Set k) ts) i h = ap (se3_of t (many (manys.Set k) ts)) (slice_get_past (members ts) i h)
  se3_past t (many manys.Record ts) i h = refl

  past_free : (o q : Option Tree) (i : ℕ) → member_count q ≤ i → is_falsified p m (on_two o q (λ t u. se3 t u i)) ≡ false
  unfolding is_falsified
  past_free (Some t) (Some u) i h = ap (is_falsified p m) (se3_past t u i h)
  past_free (Some t) None i h = refl
  past_free None q i h = refl

  pub standing_all : (count : ℕ) → member_count (term_of p s) ≤ count → AreFirstFree p m (λ (i : ℕ). Se3 x s i) count → (i : ℕ) → IsFree p m (Se3 x s i)
  unfolding AreFirstFree
  standing_all count all h i = ⊎_elim (h i) (λ (past : count ≤ i). past_free (term_of p x) (term_of p s) i (omega (arith, all, past))) (cases_lt i count)

  pub free_member : (o : Option SetRule) → IsFree p m (Se2 x s) → ((i : ℕ) → IsFree p m (Se3 x s i)) → IfNone o ((n : ℕ) → IsBesideFree p m x s (named_at p n)) → IfNone o (IsMemberFree p m x s)
  free_member (Some rule) se2 se3 beside = tt
  free_member None se2 se3 beside = record { se2 = se2; se3 = se3; beside = beside }

-- ---- by an inclusion, and by a common member

module _ (p : Posed) (m : Assignment) (s t : ℕ) where
  pub free_subset : (o : Option SetRule) → AllByRecursion (IsFree p m) (by_subset s t) → IfNone o ((i : ℕ) → IsFree p m (Se9 s t i)) → IfNone o (IsSubsetFree p m s t)
  free_subset (Some rule) rows se9 = tt
  free_subset None rows se9 = record { rows = rows; se9 = se9 }

  pub free_common : (o : Option SetRule) → AllByRecursion (IsFree p m) (by_common s t) → IfNone o ((i : ℕ) → IsFree p m (Se10 s t i)) → IfNone o (IsCommonFree p m s t)
  free_common (Some rule) rows se10 = tt
  free_common None rows se10 = record { rows = rows; se10 = se10 }
