-- Each falsified instance of SE2 to SE10 is named by a closed term, so none is where all that closed terms name are free.
use Rattle.std.proofs.Common.{◌≡◌, ◌==◌, ◌&&◌, ℕ, zero, suc, Bool, true, false, List, [], ◌∷◌, map, length, slice_get, Option, Some, None, refl, ap, ◌∙◌, subst}
use Rattle.std.proofs.lemmas.Bool.{and_parts}
use Rattle.sc_sorts.specs.contracts.sort.SortPartialEq.TheImpl.{ghosts as sorts}
use Rattle.sc_clauses.specs.Assignments.{Assignment}
use Rattle.sc_sorts.specs.declared.node.BinaryOp.{BinaryOp}
use Rattle.sc_sorts.specs.declared.node.BinaryOp.TheVariants as binary
use Rattle.sc_sorts.specs.declared.node.ManyOp.TheVariants as manys
use Rattle.sc_terms.specs.Trees.{Tree, leaf, one, two, choice, many}
use Rattle.sc_terms.specs.TreeSorts.{tree_sort}
use Rattle.sc_terms.specs.Folds.{equal_term}
use Rattle.sc_footprint.specs.Problems.{Posed, IsPosed, term_of}
use Rattle.sc_rule_laws.specs.Signed.{Signed, Said, so, unless, given}
use Rattle.sc_rule_laws.specs.Sets.{se2, se3, se3_of, se4, se5, se6, se7, se8, se9_at, se9_of, se9, se10_at, se10_of, se10}
use Rattle.sc_rule_laws.specs.Terms.{is_set, member, subset, common, members, written}
use Rattle.sc_rule_instances.specs.Clauses.{literal_for}
use Rattle.sc_rule_instances.specs.Instances.{on_two, on_three, set_said}
use Rattle.sc_rule_instances.specs.Known.{is_falsified, NoneFalsified}
use Rattle.sc_rule_instances.specs.declared.rule.SetRule.TheVariants.{Se1, Se2, Se3, Se4, Se5, Se6, Se7, Se8, Se9, Se10}
use Rattle.sc_rule_instances.proofs.InstanceLaws.{asked_atom}
use Rattle.th_sets.specs.declared.named.Named.{Named}
use Rattle.th_sets.specs.declared.named.Named.TheVariants.{Member, Subset, Common}
use Rattle.th_sets.specs.Free.{IsFree, IsBesideFree, IsMemberFree, IsNamedFree, AreNamedFree}
use Rattle.th_sets.specs.Moves.{AreMovesFree}
use Rattle.th_sets.specs.Named.{number_in, named_if, named_at}
use Rattle.th_sets.proofs.FalseLaws.{is_out, head_out, tail_out, nothing_out, free_if}
use Rattle.th_sets.proofs.NumberLaws.{number_back, listed_two}

module _ (p : Posed) (m : Assignment) where
  abbrev pub Out : Said → Type 0
  Out said = is_falsified p m said ≡ true

  pub two_view : (o q : Option Tree) (rule : Tree → Tree → Said) → Out (on_two o q rule) → (a : Tree) × (b : Tree) × (o ≡ Some a) × (q ≡ Some b) × Out (rule a b)
  two_view (Some a) (Some b) rule h = (a, b, refl, refl, h)
  two_view (Some a) None rule h = absurd (nothing_out m p h)
  two_view None q rule h = absurd (nothing_out m p h)

  pub three_view : (o q r : Option Tree) (rule : Tree → Tree → Tree → Said) → Out (on_three o q r rule)
      → (a : Tree) × (b : Tree) × (c : Tree) × (o ≡ Some a) × (q ≡ Some b) × (r ≡ Some c) × Out (rule a b c)
  three_view (Some a) (Some b) (Some c) rule h = (a, b, c, refl, refl, refl, h)
  three_view (Some a) (Some b) None rule h = absurd (nothing_out m p h)
  three_view (Some a) None r rule h = absurd (nothing_out m p h)
  three_view None q r rule h = absurd (nothing_out m p h)

  pub given_view : (b : Bool) (parts : List Signed) → Out (given b parts) → Out (Some parts)
  given_view true parts h = h
  given_view false parts h = absurd (nothing_out m p h)

  module _ (posed : IsPosed p) where
    -- an operator on two terms that stands in a falsified instance is closed
    pub so_there : (o : BinaryOp) (a b : Tree) → is_out m (literal_for p (so (two o a b))) ≡ true → (n : ℕ) × (term_of p n ≡ Some (two o a b))
    so_there o a b h = listed_two p posed o a b (asked_atom (literal_for p (so (two o a b))) (and_parts _ _ h).0)

    pub unless_there : (o : BinaryOp) (a b : Tree) → is_out m (literal_for p (unless (two o a b))) ≡ true → (n : ℕ) × (term_of p n ≡ Some (two o a b))
    unless_there o a b h = listed_two p posed o a b (asked_atom (literal_for p (unless (two o a b))) (and_parts _ _ h).0)

    named_of : (o : BinaryOp) (K : ℕ → ℕ → Named) → ((a b : Tree) → named_if p (Some (two o a b)) ≡ K (number_in p a) (number_in p b))
        → (n i j : ℕ) (a b : Tree) → term_of p n ≡ Some (two o a b) → term_of p i ≡ Some a → term_of p j ≡ Some b → named_at p n ≡ K i j
    named_of o K is n i j a b e f g =
        ap (named_if p) e ∙ is a b ∙ ap (λ (k : ℕ). K k (number_in p b)) (number_back p posed i a f) ∙ ap (K i) (number_back p posed j b g)

    pub member_named : (n i j : ℕ) (a b : Tree) → term_of p n ≡ Some (member a b) → term_of p i ≡ Some a → term_of p j ≡ Some b → named_at p n ≡ Member i j
    member_named = named_of binary.Member (λ i j. Member i j) (λ a b. refl)

    subset_named : (n i j : ℕ) (a b : Tree) → term_of p n ≡ Some (subset a b) → term_of p i ≡ Some a → term_of p j ≡ Some b → named_at p n ≡ Subset i j
    subset_named = named_of binary.Subset (λ i j. Subset i j) (λ a b. refl)

    common_named : (n i j : ℕ) (a b : Tree) → term_of p n ≡ Some (common a b) → term_of p i ≡ Some a → term_of p j ≡ Some b → named_at p n ≡ Common i j
    common_named = named_of binary.Common (λ i j. Common i j) (λ a b. refl)

    module _ (free : AreNamedFree p m) where
      member_free : (n x s : ℕ) (a b : Tree) → term_of p n ≡ Some (member a b) → term_of p x ≡ Some a → term_of p s ≡ Some b → IsMemberFree p m x s
      member_free n x s a b e f g = subst (IsNamedFree p m) (member_named n x s a b e f g) (free n)

      subset_free : (n s t : ℕ) (a b : Tree) → term_of p n ≡ Some (subset a b) → term_of p s ≡ Some a → term_of p t ≡ Some b → IsNamedFree p m (Subset s t)
      subset_free n s t a b e f g = subst (IsNamedFree p m) (subset_named n s t a b e f g) (free n)

      common_free : (n s t : ℕ) (a b : Tree) → term_of p n ≡ Some (common a b) → term_of p s ≡ Some a → term_of p t ≡ Some b → IsNamedFree p m (Common s t)
      common_free n s t a b e f g = subst (IsNamedFree p m) (common_named n s t a b e f g) (free n)

      se2_member : (a b : Tree) → Out (se2 a b) → is_out m (literal_for p (unless (member a b))) ≡ true
      se2_member a (leaf l) h = absurd (nothing_out m p h)
      se2_member a (one o c) h = absurd (nothing_out m p h)
      se2_member a (two o c d) h = absurd (nothing_out m p h)
      se2_member a (choice c d e) h = absurd (nothing_out m p h)
      se2_member a (many (manys.Set k) ts) h =
          head_out m p (unless (member a (many (manys.Set k) ts))) (map (λ (t : Tree). so (equal_term a t)) (members ts))
          (given_view (sorts.eq (tree_sort a) k) _ h)
      se2_member a (many manys.Record ts) h = absurd (nothing_out m p h)

      se3_of_member : (a b : Tree) (o : Option Tree) → Out (se3_of a b o) → is_out m (literal_for p (so (member a b))) ≡ true
      se3_of_member a b (Some t) h = head_out m p (so (member a b)) [] (tail_out m p (unless (equal_term a t)) (so (member a b) ∷ []) h)
      se3_of_member a b None h = absurd (nothing_out m p h)

      se3_member : (a b : Tree) (i : ℕ) → Out (se3 a b i) → is_out m (literal_for p (so (member a b))) ≡ true
      se3_member a (leaf l) i h = absurd (nothing_out m p h)
      se3_member a (one o c) i h = absurd (nothing_out m p h)
      se3_member a (two o c d) i h = absurd (nothing_out m p h)
      se3_member a (choice c d e) i h = absurd (nothing_out m p h)
      se3_member a (many (manys.Set k) ts) i h = se3_of_member a (many (manys.Set k) ts) _ h
      se3_member a (many manys.Record ts) i h = absurd (nothing_out m p h)

      se2_free : (x s : ℕ) → IsFree p m (Se2 x s)
      se2_free x s = free_if m p _ by
        where
          by : Out (set_said p (Se2 x s)) → IsFree p m (Se2 x s)
          by h =
              let (a, b, f, g, out) = two_view (term_of p x) (term_of p s) se2 h in
              let (n, e) = unless_there binary.Member a b (se2_member a b out) in
              (member_free n x s a b e f g).se2

      se3_free : (x s i : ℕ) → IsFree p m (Se3 x s i)
      se3_free x s i = free_if m p _ by
        where
          by : Out (set_said p (Se3 x s i)) → IsFree p m (Se3 x s i)
          by h =
              let (a, b, f, g, out) = two_view (term_of p x) (term_of p s) (λ t u. se3 t u i) h in
              let (n, e) = so_there binary.Member a b (se3_member a b i out) in
              (member_free n x s a b e f g).se3 i

      beside_subset : (n k x s t : ℕ) (a b c : Tree) → term_of p n ≡ Some (member c a) → term_of p k ≡ Some (subset a b) → term_of p s ≡ Some a → term_of p t ≡ Some b → term_of p x ≡ Some c
          → IsFree p m (Se4 s t x)
      beside_subset n k x s t a b c e d f g h =
          (subst (IsBesideFree p m x s) (subset_named k s t a b d f g) ((member_free n x s c a e h f).beside k)) refl

      beside_common : (n k x s t : ℕ) (a b c : Tree) → term_of p n ≡ Some (member c a) → term_of p k ≡ Some (common a b) → term_of p s ≡ Some a → term_of p t ≡ Some b → term_of p x ≡ Some c
          → IsFree p m (Se7 s t x)
      beside_common n k x s t a b c e d f g h =
          (subst (IsBesideFree p m x s) (common_named k s t a b d f g) ((member_free n x s c a e h f).beside k)) refl

      se4_free : (s t x : ℕ) → IsFree p m (Se4 s t x)
      se4_free s t x = free_if m p _ by
        where
          by : Out (set_said p (Se4 s t x)) → IsFree p m (Se4 s t x)
          by h =
              let (a, b, c, f, g, k, out) = three_view (term_of p s) (term_of p t) (term_of p x) se4 h in
              let (i, d) = unless_there binary.Subset a b (head_out m p _ _ out) in
              let (n, e) = unless_there binary.Member c a (head_out m p _ _ (tail_out m p _ _ out)) in
              beside_subset n i x s t a b c e d f g k

      se7_free : (s t x : ℕ) → IsFree p m (Se7 s t x)
      se7_free s t x = free_if m p _ by
        where
          by : Out (set_said p (Se7 s t x)) → IsFree p m (Se7 s t x)
          by h =
              let (a, b, c, f, g, k, out) = three_view (term_of p s) (term_of p t) (term_of p x) se7 h in
              let (n, e) = unless_there binary.Member c a (head_out m p _ _ out) in
              let (i, d) = so_there binary.Common a b (head_out m p _ _ (tail_out m p _ _ (tail_out m p _ _ out))) in
              beside_common n i x s t a b c e d f g k

      -- an instance on two sets that is named by an inclusion, whichever sets it is of
      by_subset_free : (u v s t : ℕ) (rule : Tree → Tree → Said) → ((a b : Tree) → term_of p s ≡ Some a → term_of p t ≡ Some b → Out (rule a b) → (n : ℕ) × (c : Tree) × (d : Tree)
          × (term_of p n ≡ Some (subset c d)) × (term_of p u ≡ Some c) × (term_of p v ≡ Some d)) → (IsNamedFree p m (Subset u v) → is_falsified p m (on_two (term_of p s) (term_of p t) rule) ≡ false)
          → is_falsified p m (on_two (term_of p s) (term_of p t) rule) ≡ false
      by_subset_free u v s t rule named read = free_if m p _ by
        where
          by : Out (on_two (term_of p s) (term_of p t) rule) → is_falsified p m (on_two (term_of p s) (term_of p t) rule) ≡ false
          by h =
              let (a, b, f, g, out) = two_view (term_of p s) (term_of p t) rule h in
              let (n, c, d, e, i, j) = named a b f g out in
              read (subset_free n u v c d e i j)

      by_common_free : (s t : ℕ) (rule : Tree → Tree → Said) → ((a b : Tree) → Out (rule a b) → (n : ℕ) × (term_of p n ≡ Some (common a b)))
          → (IsNamedFree p m (Common s t) → is_falsified p m (on_two (term_of p s) (term_of p t) rule) ≡ false) → is_falsified p m (on_two (term_of p s) (term_of p t) rule) ≡ false
      by_common_free s t rule named read = free_if m p _ by
        where
          by : Out (on_two (term_of p s) (term_of p t) rule) → is_falsified p m (on_two (term_of p s) (term_of p t) rule) ≡ false
          by h =
              let (a, b, f, g, out) = two_view (term_of p s) (term_of p t) rule h in
              let (n, e) = named a b out in
              read (common_free n s t a b e f g)

      se5_free : (s t i : ℕ) → IsFree p m (Se5 s t i)
      se5_free s t zero = by_subset_free s t s t (λ a b. se5 a b 0) (λ a b f g out. let (n, e) = so_there binary.Subset a b (head_out m p _ _ out) in (n, a, b, e, f, g)) (λ k. k.rows.0)
      se5_free s t (suc zero) = by_subset_free s t s t (λ a b. se5 a b 1) (λ a b f g out. let (n, e) = so_there binary.Subset a b (head_out m p _ _ out) in (n, a, b, e, f, g)) (λ k. k.rows.1.0)
      se5_free s t (suc (suc i)) = free_if m p _ (λ h. let (a, b, f, g, out) = two_view (term_of p s) (term_of p t) (λ a b. None) h in absurd (nothing_out m p out))

      se6_free : (s t i : ℕ) → IsFree p m (Se6 s t i)
      se6_free s t zero = by_common_free s t (λ a b. se6 a b 0) (λ a b out. unless_there binary.Common a b (head_out m p _ _ out)) (λ k. k.rows.0)
      se6_free s t (suc zero) = by_common_free s t (λ a b. se6 a b 1) (λ a b out. unless_there binary.Common a b (head_out m p _ _ out)) (λ k. k.rows.1.0)
      se6_free s t (suc (suc i)) = free_if m p _ (λ h. let (a, b, f, g, out) = two_view (term_of p s) (term_of p t) (λ a b. None) h in absurd (nothing_out m p out))

      se8_free : (s t i : ℕ) → IsFree p m (Se8 s t i)
      se8_free s t zero =
          by_subset_free s t s t (λ a b. se8 a b 0) (λ a b f g out. let (n, e) = so_there binary.Subset a b (head_out m p _ _ (tail_out m p _ _ out)) in (n, a, b, e, f, g)) (λ k. k.rows.1.1.0)
      se8_free s t (suc zero) =
          by_subset_free t s s t (λ a b. se8 a b 1) (λ a b f g out. let (n, e) = so_there binary.Subset b a (head_out m p _ _ (tail_out m p _ _ out)) in (n, b, a, e, g, f)) (λ k. k.rows.1.1.1.0)
      se8_free s t (suc (suc zero)) =
          by_subset_free s t s t (λ a b. se8 a b 2)
          (λ a b f g out. let (n, e) = unless_there binary.Subset a b (head_out m p _ _ (tail_out m p _ _ (given_view (is_set a && is_set b) _ out))) in (n, a, b, e, f, g)) (λ k. k.rows.1.1.1.1.0)
      se8_free s t (suc (suc (suc i))) = free_if m p _ (λ h. let (a, b, f, g, out) = two_view (term_of p s) (term_of p t) (λ a b. None) h in absurd (nothing_out m p out))

      -- ---- set terms, by those that stand there

      se9_at_there : (a b : Tree) (us : List Tree) (i : ℕ) (o : Option Tree) → Out (se9_at a b us i o) → (n : ℕ) × (term_of p n ≡ Some (subset a b))
      se9_at_there a b us i (Some u) h = unless_there binary.Subset a b (head_out m p _ _ h)
      se9_at_there a b us i None h = so_there binary.Subset a b (head_out m p _ _ (given_view (i == length us) _ h))

      se9_there : (o : Option (List Tree)) (a b : Tree) (i : ℕ) → Out (se9_of o a b i) → (n : ℕ) × (term_of p n ≡ Some (subset a b))
      se9_there (Some us) a b i h = se9_at_there a b us i (slice_get us i) h
      se9_there None a b i h = absurd (nothing_out m p h)

      se9_free : (s t i : ℕ) → IsFree p m (Se9 s t i)
      se9_free s t i = by_subset_free s t s t (λ a b. se9 a b i) (λ a b f g out. let (n, e) = se9_there (written a) a b i out in (n, a, b, e, f, g)) (λ k. k.se9 i)

      se10_at_there : (a b v : Tree) (us : List Tree) (i : ℕ) (o : Option Tree) → Out (se10_at (common a b) us v i o) → (n : ℕ) × (term_of p n ≡ Some (common a b))
      se10_at_there a b v us i (Some u) h = so_there binary.Common a b (head_out m p _ _ h)
      se10_at_there a b v us i None h = unless_there binary.Common a b (head_out m p _ _ (given_view (i == length us) _ h))

      se10_there : (o q : Option (List Tree)) (a b : Tree) (i : ℕ) → Out (se10_of o q a b i) → (n : ℕ) × (term_of p n ≡ Some (common a b))
      se10_there (Some us) q a b i h = se10_at_there a b b us i (slice_get us i) h
      se10_there None (Some us) a b i h = se10_at_there a b a us i (slice_get us i) h
      se10_there None None a b i h = absurd (nothing_out m p h)

      se10_free : (s t i : ℕ) → IsFree p m (Se10 s t i)
      se10_free s t i = by_common_free s t (λ a b. se10 a b i) (λ a b out. se10_there (written a) (written b) a b i out) (λ k. k.se10 i)

      pub none_falsified : AreMovesFree p m → NoneFalsified set_said p m
      none_falsified moves (Se1 x y s) = moves x y s
      none_falsified moves (Se2 x s) = se2_free x s
      none_falsified moves (Se3 x s i) = se3_free x s i
      none_falsified moves (Se4 s t x) = se4_free s t x
      none_falsified moves (Se5 s t i) = se5_free s t i
      none_falsified moves (Se6 s t i) = se6_free s t i
      none_falsified moves (Se7 s t x) = se7_free s t x
      none_falsified moves (Se8 s t i) = se8_free s t i
      none_falsified moves (Se9 s t i) = se9_free s t i
      none_falsified moves (Se10 s t i) = se10_free s t i
