-- An operator on two terms, and a choice, make a term just where their tests pass.
use Rattle.std.proofs.Common.{◌≡◌, ◌&&◌, ℕ, List, Bool, true, Some, sym, ap, ◌∙◌, subst}
use Rattle.sc_laws.proofs.BoolLaws.{and_first, and_second}
use Rattle.sc_names.specs.declared.uid.Uid.{Uid}
use Rattle.sc_schema.specs.declared.declarations.Env.{Env}
use Rattle.sc_schema.specs.declared.ty.Ty.{Ty}
use Rattle.sc_schema.specs.Declarations.{Declarations, tags_of}
use Rattle.sc_sorts.specs.declared.sort.Sort.{Sort}
use Rattle.sc_sorts.specs.declared.sort.Sort.TheVariants as sort
use Rattle.sc_sorts.specs.contracts.sort.SortPartialEq.TheImpl.{ghosts as sorts}
use Rattle.sc_sorts.specs.Entities.{entity_sort}
use Rattle.sc_sorts.specs.Inside.{member_sort}
use Rattle.sc_sorts.specs.OfTypes.{sort_of}
use Rattle.sc_sorts.specs.declared.node.BinaryOp.{BinaryOp}
use Rattle.sc_sorts.specs.declared.node.BinaryOp.TheVariants as binary
use Rattle.sc_sorts.specs.NodeSorts.{binary_sort}
use Rattle.sc_terms.specs.Trees.{Tree, two, choice}
use Rattle.sc_terms.specs.TreeSorts.{tree_sort}
use Rattle.sc_term_laws.specs.Judging.{IsTermOf, IsArithmetic, IsOverflow, IsNumberSort, IsTestOfSets, IsPick}
use Rattle.sc_term_laws.specs.Judging as judged
use Rattle.sc_term_laws.specs.Tests.{is_bool, is_long, is_string, is_ip, is_number, is_set, is_entity_sort, name_of, both_bool, both_long, both_numbers, both_sets, tag_test, binary_test, choice_test}
use Rattle.sc_term_laws.proofs.JudgingLaws.{sort_is}
use Rattle.sc_term_laws.proofs.TestLaws as test
use Rattle.std.specs.Cmp.Derive.{both_true}
use Rattle.sc_laws.proofs.NumberLaws.{at_most}
use Rattle.sc_term_laws.proofs.UnaryJudged.{at_its_sort, of_sort}

module _ (d : Declarations) (env : Env) (written : List Uid) where
  abbrev Is : Sort → Tree → Type 0
  Is k t = IsTermOf d env written k t

  abbrev IsTerm : Tree → Type 0
  IsTerm t = Is (tree_sort t) t

  at : (k l : Sort) (t : Tree) → k ≡ l → Is k t → Is l t
  at k l t e h = of_sort d env written k l t e h

  kept : (k : Sort) (t : Tree) → Is k t → IsTerm t
  kept k t h = at_its_sort d env written k t h

  its : (k : Sort) (t : Tree) → Is k t → tree_sort t ≡ k
  its k t h = sort_is d env written k t h

  module _ (a b : Tree) (g : IsTerm a) (h : IsTerm b) where
    -- ---- what passes the test is a term

    second_is : sorts.eq (tree_sort a) (tree_sort b) ≡ true → Is (tree_sort a) b
    second_is e = at (tree_sort b) (tree_sort a) b (sym (test.same_sorts (tree_sort a) (tree_sort b) e)) h

    first_bool : both_bool (tree_sort a) (tree_sort b) ≡ true → Is sort.Bool a
    first_bool t = at _ sort.Bool a (test.bool_sort (tree_sort a) (and_first _ _ t)) g

    second_bool : both_bool (tree_sort a) (tree_sort b) ≡ true → Is sort.Bool b
    second_bool t = at _ sort.Bool b (test.bool_sort (tree_sort b) (and_second (is_bool (tree_sort a)) _ t)) h

    first_long : both_long (tree_sort a) (tree_sort b) ≡ true → Is sort.Long a
    first_long t = at _ sort.Long a (test.long_sort (tree_sort a) (and_first _ _ t)) g

    second_long : both_long (tree_sort a) (tree_sort b) ≡ true → Is sort.Long b
    second_long t = at _ sort.Long b (test.long_sort (tree_sort b) (and_second (is_long (tree_sort a)) _ t)) h

    numbers : both_numbers (tree_sort a) (tree_sort b) ≡ true → IsNumberSort (tree_sort a)
    numbers t = test.number_sort (tree_sort a) (and_first _ _ t)

    like_first : both_numbers (tree_sort a) (tree_sort b) ≡ true → Is (tree_sort a) b
    like_first t = second_is (and_second (is_number (tree_sort a)) _ t)

    set_is : both_sets (tree_sort a) (tree_sort b) ≡ true → tree_sort a ≡ sort.Set (member_sort (tree_sort a))
    set_is t = test.member_sort_of (tree_sort a) (and_first _ _ t)

    first_set : both_sets (tree_sort a) (tree_sort b) ≡ true → Is (sort.Set (member_sort (tree_sort a))) a
    first_set t = at _ _ a (set_is t) g

    second_set : both_sets (tree_sort a) (tree_sort b) ≡ true → Is (sort.Set (member_sort (tree_sort a))) b
    second_set t = at _ _ b (set_is t) (second_is (and_second (is_set (tree_sort a)) _ t))

    arithmetic : (o : BinaryOp) → IsArithmetic o → both_long (tree_sort a) (tree_sort b) ≡ true → Is sort.Long (two o a b)
    arithmetic o i t = judged.of_arithmetic o a b i (first_long t) (second_long t)

    overflow : (o : BinaryOp) → IsOverflow o → both_long (tree_sort a) (tree_sort b) ≡ true → Is sort.Bool (two o a b)
    overflow o i t = judged.of_overflow o a b i (first_long t) (second_long t)

    sets : (o : BinaryOp) → IsTestOfSets o → both_sets (tree_sort a) (tree_sort b) ≡ true → Is sort.Bool (two o a b)
    sets o i t = judged.of_sets o (member_sort (tree_sort a)) a b i (first_set t) (second_set t)

    pick : (o : BinaryOp) → IsPick o → both_sets (tree_sort a) (tree_sort b) ≡ true → Is (member_sort (tree_sort a)) (two o a b)
    pick o i t = judged.of_pick o (member_sort (tree_sort a)) a b i (first_set t) (second_set t)

    in_range : (is_ip (tree_sort a) && is_ip (tree_sort b)) ≡ true → Is sort.Bool (two binary.InRange a b)
    in_range t = judged.of_in_range a b (at _ sort.Ip a (test.ip_sort (tree_sort a) (and_first _ _ t)) g) (at _ sort.Ip b (test.ip_sort (tree_sort b) (and_second (is_ip (tree_sort a)) _ t)) h)

    tag : (own : Sort) → tag_test d own (tree_sort a) (tree_sort b) ≡ true → Is own (two (binary.Tag own) a b)
    tag own t =
        let k = tree_sort a in
        let e = test.entity_is d k (and_first _ _ t) in
        let rest = and_second (is_entity_sort d k) _ t in
        let p = test.type_is (tags_of d (name_of k)) own (and_second (is_string (tree_sort b)) _ rest) in
        subst (λ (z : Sort). Is z (two (binary.Tag z) a b)) (sym p.2)
        (judged.of_tag (name_of k) p.0 a b p.1 (at k _ a e g) (at _ sort.String b (test.string_sort (tree_sort b) (and_first _ _ rest)) h))

    pub binary_made : (o : BinaryOp) → binary_test d o (tree_sort a) (tree_sort b) a b ≡ true → Is (binary_sort o (tree_sort a)) (two o a b)
    binary_made binary.And t = let s = and_first _ _ t in judged.of_and a b (first_bool s) (second_bool s) (and_second (both_bool (tree_sort a) (tree_sort b)) _ t)
    binary_made binary.Or t = let s = and_first _ _ t in judged.of_or a b (first_bool s) (second_bool s) (and_second (both_bool (tree_sort a) (tree_sort b)) _ t)
    binary_made binary.Equal t = judged.of_equal (tree_sort a) a b g (second_is (and_first _ _ t)) (and_second (sorts.eq (tree_sort a) (tree_sort b)) _ t)
    binary_made binary.Add t = arithmetic binary.Add (judged.of_sum binary.Add judged.addition) t
    binary_made binary.Subtract t = arithmetic binary.Subtract (judged.of_sum binary.Subtract judged.subtraction) t
    binary_made binary.Multiply t = arithmetic binary.Multiply judged.multiplication t
    binary_made binary.AddOverflows t = overflow binary.AddOverflows judged.addition_overflow t
    binary_made binary.SubtractOverflows t = overflow binary.SubtractOverflows judged.subtraction_overflow t
    binary_made binary.MultiplyOverflows t = overflow binary.MultiplyOverflows judged.multiplication_overflow t
    binary_made binary.Less t = judged.of_less (tree_sort a) a b (numbers t) g (like_first t)
    binary_made binary.InRange t = in_range t
    binary_made (binary.Low i) t =
        let s = and_first _ _ t in
        judged.of_low (tree_sort a) i a b (numbers s) (at_most i 64 (and_second (both_numbers (tree_sort a) (tree_sort b)) _ t)) g (like_first s)
    binary_made (binary.Tag own) t = tag own t
    binary_made binary.Member t = judged.of_member (tree_sort a) a b g (at _ _ b (test.set_sort (tree_sort b) (tree_sort a) t) h)
    binary_made binary.Subset t = sets binary.Subset judged.subset_test t
    binary_made binary.Common t = sets binary.Common judged.common_test t
    binary_made binary.DifferencePick t = pick binary.DifferencePick judged.difference t
    binary_made binary.CommonPick t = pick binary.CommonPick judged.intersection t

  -- ---- what is a term passes the test, and so do its parts

  abbrev Kept : BinaryOp → Tree → Tree → Type 0
  Kept o a b = IsTerm a × IsTerm b × (binary_test d o (tree_sort a) (tree_sort b) a b ≡ true)

  same_told : (k : Sort) (a b : Tree) → Is k a → Is k b → sorts.eq (tree_sort a) (tree_sort b) ≡ true
  same_told k a b g h = test.same_told (tree_sort a) (tree_sort b) (its k a g ∙ sym (its k b h))

  bools_told : (a b : Tree) → Is sort.Bool a → Is sort.Bool b → both_bool (tree_sort a) (tree_sort b) ≡ true
  bools_told a b g h = both_true (test.bool_told _ (its sort.Bool a g)) (test.bool_told _ (its sort.Bool b h))

  longs_told : (a b : Tree) → Is sort.Long a → Is sort.Long b → both_long (tree_sort a) (tree_sort b) ≡ true
  longs_told a b g h = both_true (test.long_told _ (its sort.Long a g)) (test.long_told _ (its sort.Long b h))

  numbers_told : (k : Sort) (a b : Tree) → IsNumberSort k → Is k a → Is k b → both_numbers (tree_sort a) (tree_sort b) ≡ true
  numbers_told k a b i g h = both_true (test.number_told _ k (its k a g) i) (same_told k a b g h)

  sets_told : (k : Sort) (a b : Tree) → Is (sort.Set k) a → Is (sort.Set k) b → both_sets (tree_sort a) (tree_sort b) ≡ true
  sets_told k a b g h = both_true (test.set_told _ k (its (sort.Set k) a g)) (same_told (sort.Set k) a b g h)

  arithmetic_kept : (o : BinaryOp) (a b : Tree) → IsArithmetic o → both_long (tree_sort a) (tree_sort b) ≡ true → binary_test d o (tree_sort a) (tree_sort b) a b ≡ true
  arithmetic_kept _ a b (judged.of_sum _ judged.addition) h = h
  arithmetic_kept _ a b (judged.of_sum _ judged.subtraction) h = h
  arithmetic_kept _ a b judged.multiplication h = h

  overflow_kept : (o : BinaryOp) (a b : Tree) → IsOverflow o → both_long (tree_sort a) (tree_sort b) ≡ true → binary_test d o (tree_sort a) (tree_sort b) a b ≡ true
  overflow_kept _ a b judged.addition_overflow h = h
  overflow_kept _ a b judged.subtraction_overflow h = h
  overflow_kept _ a b judged.multiplication_overflow h = h

  sets_kept : (o : BinaryOp) (a b : Tree) → IsTestOfSets o → both_sets (tree_sort a) (tree_sort b) ≡ true → binary_test d o (tree_sort a) (tree_sort b) a b ≡ true
  sets_kept _ a b judged.subset_test h = h
  sets_kept _ a b judged.common_test h = h

  pick_kept : (o : BinaryOp) (a b : Tree) → IsPick o → both_sets (tree_sort a) (tree_sort b) ≡ true → binary_test d o (tree_sort a) (tree_sort b) a b ≡ true
  pick_kept _ a b judged.difference h = h
  pick_kept _ a b judged.intersection h = h

  tag_kept : (name : List ℕ) (t : Ty) (a k : Tree) → tags_of d name ≡ Some t → Is (entity_sort d name) a → Is sort.String k → tag_test d (sort_of t) (tree_sort a) (tree_sort k) ≡ true
  tag_kept name t a k e g h =
      let same = its (entity_sort d name) a g in
      both_true (test.entity_told d (tree_sort a) name same)
      (both_true (test.string_told _ (its sort.String k h)) (test.type_told _ t (ap (tags_of d) (test.name_told d (tree_sort a) name same) ∙ e)))

  pub binary_kept : (k : Sort) (o : BinaryOp) (a b : Tree) → Is k (two o a b) → Kept o a b
  binary_kept _ _ _ _ (judged.of_and a b g h e) = (kept sort.Bool a g, kept sort.Bool b h, both_true (bools_told a b g h) e)
  binary_kept _ _ _ _ (judged.of_or a b g h e) = (kept sort.Bool a g, kept sort.Bool b h, both_true (bools_told a b g h) e)
  binary_kept _ _ _ _ (judged.of_equal k a b g h e) = (kept k a g, kept k b h, both_true (same_told k a b g h) e)
  binary_kept _ _ _ _ (judged.of_arithmetic o a b i g h) = (kept sort.Long a g, kept sort.Long b h, arithmetic_kept o a b i (longs_told a b g h))
  binary_kept _ _ _ _ (judged.of_overflow o a b i g h) = (kept sort.Long a g, kept sort.Long b h, overflow_kept o a b i (longs_told a b g h))
  binary_kept _ _ _ _ (judged.of_less k a b i g h) = (kept k a g, kept k b h, numbers_told k a b i g h)
  binary_kept _ _ _ _ (judged.of_in_range a b g h) =
      (kept sort.Ip a g, kept sort.Ip b h, both_true (test.ip_told _ (its sort.Ip a g)) (test.ip_told _ (its sort.Ip b h)))
  binary_kept _ _ _ _ (judged.of_low k i a b p q g h) = (kept k a g, kept k b h, both_true (numbers_told k a b p g h) (test.at_most_told i 64 q))
  binary_kept _ _ _ _ (judged.of_tag name t a k e g h) = (kept (entity_sort d name) a g, kept sort.String k h, tag_kept name t a k e g h)
  binary_kept _ _ _ _ (judged.of_member k a b g h) =
      (kept k a g, kept (sort.Set k) b h, test.set_of_told _ _ (its (sort.Set k) b h ∙ ap sort.Set (sym (its k a g))))
  binary_kept _ _ _ _ (judged.of_sets o k a b i g h) = (kept (sort.Set k) a g, kept (sort.Set k) b h, sets_kept o a b i (sets_told k a b g h))
  binary_kept _ _ _ _ (judged.of_pick o k a b i g h) = (kept (sort.Set k) a g, kept (sort.Set k) b h, pick_kept o a b i (sets_told k a b g h))

  -- ---- choices

  abbrev Chooses : Tree → Tree → Tree → Bool
  Chooses c a b = choice_test (tree_sort c) (tree_sort a) (tree_sort b) c a b

  pub choice_made : (c a b : Tree) → IsTerm c → IsTerm a → IsTerm b → Chooses c a b ≡ true → Is (tree_sort a) (choice c a b)
  choice_made c a b f g h t =
      let rest = and_second (is_bool (tree_sort c)) _ t in
      judged.of_choice (tree_sort a) c a b (at _ sort.Bool c (test.bool_sort (tree_sort c) (and_first _ _ t)) f) g
      (at (tree_sort b) (tree_sort a) b (sym (test.same_sorts (tree_sort a) (tree_sort b) (and_first _ _ rest))) h) (and_second (sorts.eq (tree_sort a) (tree_sort b)) _ rest)

  pub choice_kept : (k : Sort) (c a b : Tree) → Is k (choice c a b) → IsTerm c × IsTerm a × IsTerm b × (Chooses c a b ≡ true)
  choice_kept _ _ _ _ (judged.of_choice k c a b f g h e) = (
    kept sort.Bool c f,
    kept k a g,
    kept k b h,
    both_true (test.bool_told _ (its sort.Bool c f)) (both_true (same_told k a b g h) e),
  )
