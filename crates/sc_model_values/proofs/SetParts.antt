-- The rules of sets speak of truth values, where they speak of terms.
use Rattle.std.proofs.Common.{◌≡◌, ◌==◌, ◌&&◌, ℕ, zero, suc, Bool, true, false, inl, inr, List, map, length, slice_get, Option, Some, None, refl, sym, ap, ◌∙◌, subst}
use Rattle.sc_laws.proofs.BoolLaws.{and_first, and_second}
use Rattle.sc_lists.proofs.ListLaws.{contains_place}
use Rattle.sc_lists.proofs.MemberLaws.{Has-from_Contains}
use Rattle.sc_lists.specs.Members.{Has}
use Rattle.sc_names.specs.declared.uid.Uid.{Uid}
use Rattle.sc_schema.specs.declared.declarations.Env.{Env}
use Rattle.sc_schema.specs.Declarations.{Declarations}
use Rattle.sc_sorts.specs.declared.sort.Sort.{Sort, Sort-F, out-Sort}
use Rattle.sc_sorts.specs.declared.sort.Sort.TheVariants as sort
use Rattle.sc_sorts.specs.declared.sort.Sort.TheOpen as s
use Rattle.sc_sorts.specs.contracts.sort.SortPartialEq.TheImpl.{ghosts as sorts}
use Rattle.sc_sorts.specs.Inside.{member_sort}
use Rattle.sc_sorts.specs.declared.node.BinaryOp.TheVariants as binary
use Rattle.sc_sorts.specs.declared.node.ManyOp.TheVariants as manys
use Rattle.sc_terms.specs.Trees.{Tree, many, Trees}
use Rattle.sc_terms.specs.TreeSorts.{tree_sort}
use Rattle.sc_terms.specs.Folds.{constant, equal_term}
use Rattle.sc_term_laws.specs.Judging.{IsTermOf, IsTerm, HaveSort}
use Rattle.sc_term_laws.specs.Judging as judged
use Rattle.sc_term_laws.specs.Tests.{set_level, is_set as is_set_sort}
use Rattle.sc_term_laws.proofs.BinaryJudged.{binary_kept}
use Rattle.sc_term_laws.proofs.JudgingLaws.{member_of}
use Rattle.sc_term_laws.proofs.TestLaws.{same_sorts, set_sort}
use Rattle.sc_term_laws.proofs.UnaryJudged.{of_sort}
use Rattle.sc_footprint.specs.Atoms.{is_bool, is_bool_in}
use Rattle.sc_rule_laws.specs.Signed.{Said, so}
use Rattle.sc_rule_laws.specs.Terms.{is_set, member, subset, common, missing, shared, members, written}
use Rattle.sc_rule_laws.specs.Sets.{se1, se2, se3_of, se3, se4, se5, se6, se7, se8, se9_at, se9_of, se9, se10_at, se10_of, se10}
use Rattle.sc_model_values.proofs.PartSorts.{plain, plain_equal, member_bool, subset_bool, common_bool, same_equal, IsOfTruths, AreTruths, given_truths, mapped_truths}

set_at : (k : Sort-F Sort) → set_level k ≡ true → is_bool_in k ≡ false
set_at (s.Set member) h = refl
set_at _ h = absurd cc

set_plain : (t : Tree) → is_set t ≡ true → constant t ≡ None
set_plain t h = plain t (set_at (out-Sort (tree_sort t)) h)

module _ (d : Declarations) (env : Env) (literals : List Uid) where
  abbrev Of : Sort → Tree → Type 0
  Of = IsTermOf d env literals

  abbrev Is : Tree → Type 0
  Is = IsTerm d env literals

  abbrev Truths : Said → Type 0
  Truths = IsOfTruths Is

  -- a member is of the sort of the set's members
  pub of_member : (x z : Tree) → Is (member x z) → Of (member_sort (tree_sort z)) x
  of_member x z h =
      let kept = binary_kept d env literals (tree_sort (member x z)) binary.Member x z h in
      let e : tree_sort z ≡ sort.Set (tree_sort x) = set_sort (tree_sort z) (tree_sort x) kept.2 in
      of_sort d env literals (tree_sort x) (member_sort (tree_sort z)) x
      (sym (ap member_sort e ∙ member_of (tree_sort x))) kept.0

  pub se1_truths : (x y z : Tree) → Truths (se1 x y z)
  se1_truths x y z = λ all.
      (same_equal d env literals (member_sort (tree_sort z)) x y (of_member x z all.1.0) (of_member y z all.1.1.0), (member_bool x z, (member_bool y z, tt)))

  -- ---- set terms

  inside : (j k : Sort) (ts : Trees) → Of j (many (manys.Set k) ts) → HaveSort d env literals k ts
  inside _ _ _ (judged.of_set k ts h more) = more

  of_inside : (k : Sort) (ts : Trees) → HaveSort d env literals k ts → (t : Tree) → Has (members ts) t → Of k t
  of_inside _ _ (judged.no_member k) t i = absurd i
  of_inside _ _ (judged.with_member k u us h more) t (inl e) = subst (Of k) e h
  of_inside _ _ (judged.with_member k u us h more) t (inr i) = of_inside k us more t i

  pub se2_truths : (x z : Tree) → Is x → Is z → Truths (se2 x z)
  se2_truths x (many (manys.Set k) ts) g h = given_truths Is (sorts.eq (tree_sort x) k) _ (λ t.
      let first = of_sort d env literals (tree_sort x) k x (same_sorts (tree_sort x) k t) g in
      let have = inside (tree_sort (many (manys.Set k) ts)) k ts h in
      (member_bool x (many (manys.Set k) ts), mapped_truths (λ u. so (equal_term x u)) (members ts) (λ u i. same_equal d env literals k x u first (of_inside k ts have u i))))
  se2_truths x _ g h = tt

  members_sort : (k : Sort) (ts : Trees) → member_sort (tree_sort (many (manys.Set k) ts)) ≡ k
  unfolding tree_sort
  members_sort k ts = member_of k

  pub se3_truths : (x z : Tree) (i : ℕ) → Is z → Truths (se3 x z i)
  se3_truths x (many (manys.Set k) ts) i h = by (slice_get (members ts) i) refl
    where
      by : (o : Option Tree) → slice_get (members ts) i ≡ o → Truths (se3_of x (many (manys.Set k) ts) o)
      by None e = tt
      by (Some u) e = λ all.
          let first = of_sort d env literals _ k x (members_sort k ts) (of_member x (many (manys.Set k) ts) all.1.0) in
          let second = of_inside k ts (inside (tree_sort (many (manys.Set k) ts)) k ts h) u (Has-from_Contains (members ts) u (contains_place (members ts) i u e)) in
          (same_equal d env literals k x u first second, (member_bool x (many (manys.Set k) ts), tt))
  se3_truths x _ i h = tt

  -- ---- subsets, and common members

  pub se4_truths : (y z x : Tree) → Truths (se4 y z x)
  se4_truths y z x = λ all. (subset_bool y z, (member_bool x y, (member_bool x z, tt)))

  pub se5_truths : (y z : Tree) (i : ℕ) → Truths (se5 y z i)
  se5_truths y z zero = λ all. (subset_bool y z, (member_bool (missing y z) y, tt))
  se5_truths y z (suc zero) = λ all. (subset_bool y z, (member_bool (missing y z) z, tt))
  se5_truths y z (suc (suc i)) = tt

  pub se6_truths : (y z : Tree) (i : ℕ) → Truths (se6 y z i)
  se6_truths y z zero = λ all. (common_bool y z, (member_bool (shared y z) y, tt))
  se6_truths y z (suc zero) = λ all. (common_bool y z, (member_bool (shared y z) z, tt))
  se6_truths y z (suc (suc i)) = tt

  pub se7_truths : (y z x : Tree) → Truths (se7 y z x)
  se7_truths y z x = λ all. (member_bool x y, (member_bool x z, (common_bool y z, tt)))

  -- two sets of which one may be a subset of the other have one sort
  subset_sorts : (y z : Tree) → Is (subset y z) → tree_sort y ≡ tree_sort z
  subset_sorts y z h =
      let kept = binary_kept d env literals (tree_sort (subset y z)) binary.Subset y z h in
      same_sorts (tree_sort y) (tree_sort z) (and_second (is_set_sort (tree_sort y)) _ kept.2)

  alike : (y z : Tree) → Is y → Is z → tree_sort y ≡ tree_sort z → is_bool (equal_term y z) ≡ true
  alike y z g h e = same_equal d env literals (tree_sort y) y z g (of_sort d env literals (tree_sort z) (tree_sort y) z (sym e) h)

  pub se8_truths : (y z : Tree) (i : ℕ) → Is y → Is z → Truths (se8 y z i)
  se8_truths y z zero g h = λ all. (alike y z g h (subset_sorts y z all.1.0), (subset_bool y z, tt))
  se8_truths y z (suc zero) g h = λ all. (alike y z g h (sym (subset_sorts z y all.1.0)), (subset_bool z y, tt))
  se8_truths y z (suc (suc zero)) g h = given_truths Is (is_set y && is_set z) _ (λ t.
      (plain_equal y z (set_plain y (and_first _ _ t)) (set_plain z (and_second (is_set y) _ t)), (subset_bool y z, (subset_bool z y, tt))))
  se8_truths y z (suc (suc (suc i))) g h = tt

  -- ---- set terms, by those that stand there

  standing_truths : (f : Tree → Tree) (sign : Bool) (us : List Tree) → ((u : Tree) → is_bool (f u) ≡ true) → AreTruths (map (λ u. (sign, f u)) us)
  standing_truths f sign us h = mapped_truths (λ u. (sign, f u)) us (λ u i. h u)

  se9_by : (y z : Tree) (us : List Tree) (i : ℕ) (o : Option Tree) → Truths (se9_at y z us i o)
  se9_by y z us i (Some u) = λ all. (subset_bool y z, (member_bool u z, tt))
  se9_by y z us i None = given_truths Is (i == length us) _ (λ t. (subset_bool y z, standing_truths (λ u. member u z) false us (λ u. member_bool u z)))

  se9_of_truths : (o : Option (List Tree)) (y z : Tree) (i : ℕ) → Truths (se9_of o y z i)
  se9_of_truths (Some us) y z i = se9_by y z us i (slice_get us i)
  se9_of_truths None y z i = tt

  pub se9_truths : (y z : Tree) (i : ℕ) → Truths (se9 y z i)
  se9_truths y z i = se9_of_truths (written y) y z i

  se10_by : (c : Tree) (us : List Tree) (z : Tree) (i : ℕ) (o : Option Tree) → is_bool c ≡ true → Truths (se10_at c us z i o)
  se10_by c us z i (Some u) e = λ all. (e, (member_bool u z, tt))
  se10_by c us z i None e = given_truths Is (i == length us) _ (λ t. (e, standing_truths (λ u. member u z) true us (λ u. member_bool u z)))

  se10_of_truths : (o p : Option (List Tree)) (y z : Tree) (i : ℕ) → Truths (se10_of o p y z i)
  se10_of_truths (Some us) p y z i = se10_by (common y z) us z i (slice_get us i) (common_bool y z)
  se10_of_truths None (Some us) y z i = se10_by (common y z) us y i (slice_get us i) (common_bool y z)
  se10_of_truths None None y z i = tt

  pub se10_truths : (y z : Tree) (i : ℕ) → Truths (se10 y z i)
  se10_truths y z i = se10_of_truths (written y) (written z) y z i
