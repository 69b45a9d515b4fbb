-- Where an assignment falsifies no instance of EN1 or of EN3 for the places that it may falsify some for, it falsifies none.
use Rattle.std.proofs.Common.{◌≡◌, ◌<◌, ◌≤◌, ◌&&◌, ◌++◌, ◌+◌, ◌∙◌, ℕ, zero, suc, nat_lt, Bool, true, false, List, [], ◌∷◌, Option, Some, None, IfNone, refl, sym, ap, subst, arith, ⊎_elim}
use Rattle.std.proofs.lemmas.Bool.{and_from, and_parts, cases_lt}
use Rattle.std.proofs.lemmas.Bool.Decides.{nat_tests}
use Rattle.std.specs.List.{AllByRecursion}
use Rattle.sc_lists.proofs.MemberLaws.{AllByRecursion-Has, Has-AllByRecursion}
use Rattle.sc_lists.specs.Members.{Has}
use Rattle.sc_clauses.specs.Assignments.{Assignment}
use Rattle.sc_clauses.specs.Clauses.{negation, positive}
use Rattle.sc_sorts.specs.declared.sort.Sort.{Sort, Sort-F, out-Sort}
use Rattle.sc_sorts.specs.declared.sort.Sort.TheOpen as s
use Rattle.sc_sorts.specs.contracts.sort.SortPartialEq.TheImpl.{ghosts as sorts}
use Rattle.sc_sorts.specs.declared.node.UnaryOp.TheVariants as unary
use Rattle.sc_sorts.specs.declared.node.BinaryOp.TheVariants as binary
use Rattle.sc_terms.specs.Trees.{Tree, one, two}
use Rattle.sc_terms.specs.TreeSorts.{tree_sort}
use Rattle.sc_terms.specs.Tables.{tree}
use Rattle.sc_terms.specs.Folds.{bit_term, equal_term, present_term}
use Rattle.sc_footprint.specs.Problems.{Posed, IsPosed, literal_in, term_of}
use Rattle.sc_rule_instances.specs.Clauses.{clause_for}
use Rattle.sc_rule_instances.specs.Instances.{entity_said, on_two}
use Rattle.sc_rule_instances.specs.Known.{is_broken, is_falsified}
use Rattle.sc_rule_instances.proofs.KnownLaws.{equal_itself}
use Rattle.sc_rule_instances.proofs.LiteralLaws.{literal_truth}
use Rattle.sc_rule_laws.specs.Signed.{Signed, Said, so, unless, given}
use Rattle.sc_rule_laws.specs.Places.{half, half_by, roots, under}
use Rattle.sc_rule_laws.specs.Entities.{en1, en1_of, en3, en3_of}
use Rattle.sc_rule_laws.specs.Terms.{member}
use Rattle.th_entities.specs.declared.memberships.Membership.{Membership}
use Rattle.th_entities.specs.declared.places.Place.{Place}
use Rattle.th_entities.specs.Alike.{IsAlikeFree, IsCandidateFree, IsFreeBeside, IsPairFree, alike_rule, are_like, guard_out, half_level, may_break, may_break_by}
use Rattle.th_entities.specs.Free.{IsFree, is_out}
use Rattle.th_entities.specs.Memberships.{AreMemberships, is_true, membership_in}
use Rattle.th_entities.specs.Places.{ArePlaces, AreRooted, IsPlace, IsPlaced, is_root, is_tag, root}
use Rattle.th_entities.proofs.ListedLaws.{free_if, given_out, nothing_out, number_back, true_listed}
use Rattle.th_entities.proofs.PlaceLaws.{place_root, place_term, roots_one, roots_own}
use Rattle.th_entities.proofs.PruneLaws.{both_out}

-- what holds where nothing is found tells something
pub weaker_none : {T P Q : Type 0} → (o : Option T) → (P → Q) → IfNone o P → IfNone o Q
weaker_none (Some x) f h = tt
weaker_none None f h = f h

module _ (p : Posed) (m : Assignment) where
  abbrev Out : Said → Type 0
  Out said = is_falsified p m said ≡ true

  -- ---- the guard and the half

  -- what is falsified under a guard has its test, and the guard and the rest are falsified
  record IsUnder (test : Bool) (guard : List Signed) (said : Said) : Type 0 where
    passes : test ≡ true
    parts : List Signed
    is : said ≡ Some parts
    out : is_broken m (clause_for p (guard ++ parts)) ≡ true

  under_out : (test : Bool) (guard : List Signed) (said : Said) → Out (under test guard said) → IsUnder test guard said
  unfolding is_falsified
  under_out true guard (Some parts) h = record { passes = refl; parts = parts; is = refl; out = h }
  under_out true guard None h = absurd (nothing_out p m h)
  under_out false guard (Some parts) h = absurd (nothing_out p m h)
  under_out false guard None h = absurd (nothing_out p m h)

  rest_out : (said : Said) (parts : List Signed) → said ≡ Some parts → is_broken m (clause_for p parts) ≡ true → Out said
  unfolding is_falsified
  rest_out said parts e h = ap (is_falsified p m) e ∙ h

  -- the roots are guarded, and the half is falsified
  record IsGuarded (tags : Bool) (r q : Tree) (said : Said) : Type 0 where
    guard : guard_out p m r q ≡ true
    kind : is_tag r ≡ tags
    told : Out said

  one_guarded : (r q : Tree) (said : Said) → Out (en1_of r q said) → IsGuarded false r q said
  one_guarded (one (unary.Attributes k) e) (one (unary.Attributes l) f) said h =
      let u = under_out (sorts.eq k l) (unless (equal_term e f) ∷ []) said h in
      let all = and_parts (is_true p m (equal_term e f)) (is_broken m (clause_for p u.parts)) u.out in
      record { guard = and_from (sorts.eq k l) (is_true p m (equal_term e f)) u.passes all.0; kind = refl; told = rest_out said u.parts u.is all.1 }
  one_guarded (one (unary.Attributes k) e) (one _ f) said h = absurd (nothing_out p m h)
  one_guarded (one (unary.Attributes k) e) _ said h = absurd (nothing_out p m h)
  one_guarded (one _ e) q said h = absurd (nothing_out p m h)
  one_guarded _ q said h = absurd (nothing_out p m h)

  tag_guarded : (r q : Tree) (said : Said) → Out (en3_of r q said) → IsGuarded true r q said
  tag_guarded (two (binary.Tag s) e k) (two (binary.Tag t) f l) said h =
      let u = under_out (sorts.eq s t) (unless (equal_term e f) ∷ unless (equal_term k l) ∷ []) said h in
      let all = and_parts (is_true p m (equal_term e f)) (is_true p m (equal_term k l) && is_broken m (clause_for p u.parts)) u.out in
      let rest = and_parts (is_true p m (equal_term k l)) (is_broken m (clause_for p u.parts)) all.1 in
      record {
        guard = and_from (sorts.eq s t) (is_true p m (equal_term e f) && is_true p m (equal_term k l)) u.passes (and_from (is_true p m (equal_term e f)) (is_true p m (equal_term k l)) all.0 rest.0);
        kind = refl;
        told = rest_out said u.parts u.is rest.1;
      }
  tag_guarded (two (binary.Tag s) e k) (two _ f l) said h = absurd (nothing_out p m h)
  tag_guarded (two (binary.Tag s) e k) _ said h = absurd (nothing_out p m h)
  tag_guarded (two _ e k) q said h = absurd (nothing_out p m h)
  tag_guarded _ q said h = absurd (nothing_out p m h)

  guard_roots : (r q : Tree) → guard_out p m r q ≡ true → (is_root r ≡ true) × (is_root q ≡ true)
  guard_roots (one (unary.Attributes k) e) (one (unary.Attributes l) f) h = (refl, refl)
  guard_roots (one (unary.Attributes k) e) (one _ f) h = absurd cc
  guard_roots (one (unary.Attributes k) e) _ h = absurd cc
  guard_roots (one _ e) q h = absurd cc
  guard_roots (two (binary.Tag s) e k) (two (binary.Tag t) f l) h = (refl, refl)
  guard_roots (two (binary.Tag s) e k) (two _ f l) h = absurd cc
  guard_roots (two (binary.Tag s) e k) _ h = absurd cc
  guard_roots (two _ e k) q h = absurd cc
  guard_roots _ q h = absurd cc

  -- ---- what an assignment that falsifies an instance says

  -- two closed terms are like places of roots that are guarded, and the half is falsified
  record IsFound (tags : Bool) (x y i : ℕ) : Type 0 where
    first : Tree
    second : Tree
    first_is : term_of p x ≡ Some first
    second_is : term_of p y ≡ Some second
    like : are_like first second ≡ true
    own_first : (roots first second).0 ≡ root first
    own_second : (roots first second).1 ≡ root second
    guard : guard_out p m (root first) (root second) ≡ true
    kind : is_tag (root first) ≡ tags
    told : Out (half first second i (term_of p i))

  found_by : (tags : Bool) (x y i : ℕ) (t u : Tree) → term_of p x ≡ Some t → term_of p y ≡ Some u → IsGuarded tags (roots t u).0 (roots t u).1 (half t u i (term_of p i)) → IsFound tags x y i
  found_by tags x y i t u e f h =
      let are = guard_roots (roots t u).0 (roots t u).1 h.guard in
      let own = roots_own t u are.0 are.1 in
      record {
        first = t;
        second = u;
        first_is = e;
        second_is = f;
        like = and_from (is_root (roots t u).0) (is_root (roots t u).1) are.0 are.1;
        own_first = own.0;
        own_second = own.1;
        guard = subst (λ (q : Tree). guard_out p m (root t) q ≡ true) own.1 (subst (λ (r : Tree). guard_out p m r (roots t u).1 ≡ true) own.0 h.guard);
        kind = ap is_tag (sym own.0) ∙ h.kind;
        told = h.told;
      }

  one_found : (x y i : ℕ) (o q : Option Tree) → term_of p x ≡ o → term_of p y ≡ q → Out (on_two o q (λ t u. en1 t u i (term_of p i))) → IsFound false x y i
  one_found x y i (Some t) (Some u) e f h = found_by false x y i t u e f (one_guarded (roots t u).0 (roots t u).1 (half t u i (term_of p i)) h)
  one_found x y i (Some t) None e f h = absurd (nothing_out p m h)
  one_found x y i None q e f h = absurd (nothing_out p m h)

  tag_found : (x y i : ℕ) (o q : Option Tree) → term_of p x ≡ o → term_of p y ≡ q → Out (on_two o q (λ t u. en3 t u i (term_of p i))) → IsFound true x y i
  tag_found x y i (Some t) (Some u) e f h = found_by true x y i t u e f (tag_guarded (roots t u).0 (roots t u).1 (half t u i (term_of p i)) h)
  tag_found x y i (Some t) None e f h = absurd (nothing_out p m h)
  tag_found x y i None q e f h = absurd (nothing_out p m h)

  found : (tags : Bool) (x y i : ℕ) → Out (entity_said p (alike_rule tags x y i)) → IsFound tags x y i
  found true x y i h = tag_found x y i (term_of p x) (term_of p y) refl refl h
  found false x y i h = one_found x y i (term_of p x) (term_of p y) refl refl h

  -- an instance is free where no such places are found
  free_unless : (tags : Bool) (x y i : ℕ) → (IsFound tags x y i → IsFree p m (alike_rule tags x y i)) → IsFree p m (alike_rule tags x y i)
  free_unless tags x y i h = free_if p m (entity_said p (alike_rule tags x y i)) (λ out. h (found tags x y i out))

  never : {X : Type 0} (b : Bool) → b ≡ true → b ≡ false → X
  never b e f = let no : true ≡ false = sym e ∙ f in absurd cc

  -- ---- two places

  module _ (a b : Place) (first : IsPlace p a) (second : IsPlace p b) where
    pub guard_free : guard_out p m (tree p.nodes a.root) (tree p.nodes b.root) ≡ false → IsPairFree p m a b
    guard_free e tags i = free_unless tags a.number b.number i (λ f. (
        let one = place_root p a f.first first f.first_is in
        let other = place_root p b f.second second f.second_is in
        never (guard_out p m (root f.first) (root f.second)) f.guard ((λ j. guard_out p m (one j) (other j)) ∙ e)))

    pub unlike_free : (tags : Bool) → are_like (tree p.nodes a.term) (tree p.nodes b.term) ≡ false → IsAlikeFree p m tags a.number b.number
    unlike_free tags e i = free_unless tags a.number b.number i (λ f. (
        let one = place_term p a f.first first f.first_is in
        let other = place_term p b f.second second f.second_is in
        never (are_like f.first f.second) f.like ((λ j. are_like (one j) (other j)) ∙ e)))

  kind_free : (a b : Place) (tags kind : Bool) → IsPlace p a → kind ≡ is_tag (tree p.nodes a.root) → (kind ≡ tags → ⊥) → IsAlikeFree p m tags a.number b.number
  kind_free a b tags kind place e apart i = free_unless tags a.number b.number i (λ f. absurd (apart (e ∙ ap is_tag (sym (place_root p a f.first place f.first_is)) ∙ f.kind)))

  -- where there is none of one kind there is none of the other
  pub both_kinds : (a b : Place) (kind : Bool) → IsPlace p a → kind ≡ is_tag (tree p.nodes a.root) → IsAlikeFree p m kind a.number b.number → IsPairFree p m a b
  both_kinds a b true place e h true = h
  both_kinds a b false place e h false = h
  both_kinds a b true place e h false = kind_free a b false true place e (λ z. cc)
  both_kinds a b false place e h true = kind_free a b true false place e (λ z. cc)

  -- ---- a place and itself

  module _ (posed : IsPosed p) where
    -- what is true isn't asked
    itself_out : (t : Tree) → Out (Some (so (equal_term t t) ∷ [])) → ⊥
    unfolding is_falsified
    itself_out t h =
        let head = (and_parts (is_out m (literal_in p (equal_term t t))) true h).0 in
        let is : literal_in p (equal_term t t) ≡ positive 1 = ap (literal_in p) (equal_itself t) ∙ literal_truth p posed true in
        let no : is_out m (positive 1) ≡ true = subst (λ l. is_out m l ≡ true) is head in
        cc

    opposed_out : (t : Tree) → Out (Some (unless t ∷ so t ∷ [])) → ⊥
    unfolding is_falsified
    opposed_out t h =
        let all = and_parts (is_out m (negation (literal_in p t))) (is_out m (literal_in p t) && true) h in
        both_out p m (literal_in p t) all.0 (and_parts (is_out m (literal_in p t)) true all.1).0

    bit_out : (count i : ℕ) (t : Tree) → Out (given (nat_lt i count) (unless (bit_term t i) ∷ so (bit_term t i) ∷ [])) → ⊥
    bit_out count i t = by (nat_lt i count)
      where
        by : (b : Bool) → Out (given b (unless (bit_term t i) ∷ so (bit_term t i) ∷ [])) → ⊥
        by true h = opposed_out (bit_term t i) h
        by false h = nothing_out p m h

    same_out : (k : Sort-F Sort) (t : Tree) (i : ℕ) (z : Option Tree) → Out (half_by k t t i z) → ⊥
    same_out s.Bool t zero z h = opposed_out t h
    same_out s.Bool t (suc i) z h = nothing_out p m h
    same_out s.String t zero z h = itself_out t h
    same_out s.String t (suc i) z h = nothing_out p m h
    same_out (s.Entity name us) t zero z h = itself_out t h
    same_out (s.Entity name us) t (suc i) z h = nothing_out p m h
    same_out (s.Option held) t zero z h = opposed_out (present_term t) h
    same_out (s.Option held) t (suc i) z h = nothing_out p m h
    same_out s.Long t i z h = bit_out 64 i t h
    same_out s.Decimal t i z h = bit_out 64 i t h
    same_out s.Ip t i z h = bit_out 257 i t h
    same_out (s.Set k) t i (Some c) h = opposed_out (member c t) h
    same_out (s.Set k) t i None h = nothing_out p m h
    same_out (s.Record fields) t i z h = nothing_out p m h

    pub root_free : (a b : Place) → IsPlace p a → IsPlace p b → a.root ≡ b.root → IsPairFree p m a b
    root_free a b first second e tags i = free_unless tags a.number b.number i (λ f. (
        let one : root f.first ≡ tree p.nodes a.root = place_root p a f.first first f.first_is in
        let other : root f.second ≡ tree p.nodes b.root = place_root p b f.second second f.second_is in
        let same : root f.first ≡ root f.second = one ∙ ap (tree p.nodes) e ∙ sym other in
        let term : f.first ≡ f.second = roots_one f.first f.second (f.own_first ∙ same ∙ sym f.own_second) in
        absurd (same_out (out-Sort (tree_sort f.first)) f.first i (term_of p i) (subst (λ (u : Tree). Out (half f.first u i (term_of p i))) (sym term) f.told))))

    -- ---- sets

    set_out : (k : Sort-F Sort) (x y : Tree) (i : ℕ) (z : Option Tree) → None ≡ half_level k → Out (half_by k x y i z) → (c : Tree) × (z ≡ Some c) × (is_true p m (member c x) ≡ true)
    unfolding is_falsified
    set_out (s.Set k) x y i (Some c) e h = (c, refl, (and_parts (is_true p m (member c x)) (is_out m (literal_in p (member c y)) && true) h).0)
    set_out (s.Set k) x y i None e h = absurd (nothing_out p m h)
    set_out _ x y i z e h = absurd cc

    pub candidate_free : (known : List Membership) (tags : Bool) (a : Place) (y : ℕ) → AreMemberships p m known → IsPlace p a → None ≡ half_level (out-Sort (tree_sort (tree p.nodes a.term)))
        → AllByRecursion (IsCandidateFree p m tags a.number y) known → IsAlikeFree p m tags a.number y
    candidate_free known tags a y all place set each i = free_unless tags a.number y i by
      where
        by : IsFound tags a.number y i → IsFree p m (alike_rule tags a.number y i)
        by f =
            let same : f.first ≡ tree p.nodes a.term = place_term p a f.first place f.first_is in
            let (c, is, held) = set_out (out-Sort (tree_sort f.first)) f.first f.second i (term_of p i) (set ∙ ap (λ (t : Tree). half_level (out-Sort (tree_sort t))) (sym same)) f.told in
            let has = true_listed p m known all c f.first held in
            let free : IsFree p m (alike_rule tags a.number y (membership_in p c f.first).member) = AllByRecursion-Has (IsCandidateFree p m tags a.number y) known (membership_in p c f.first) each has (number_back p posed a.number f.first f.first_is) in
            subst (λ (j : ℕ). IsFree p m (alike_rule tags a.number y j)) (number_back p posed i c is) free

  -- ---- by the numbers of halves

  past_bits : (i count : ℕ) (parts : List Signed) → count ≤ i → given (nat_lt i count) parts ≡ None
  past_bits i count parts h = let past : nat_lt i count ≡ false = grind (arith, nat_tests, h) in ap (λ (b : Bool). given b parts) past

  past_one : (k : Sort-F Sort) (x y : Tree) (i : ℕ) (z : Option Tree) → half_level k ≡ Some 1 → 1 ≤ i → half_by k x y i z ≡ None
  past_one s.Bool x y (suc i) z e h = refl
  past_one s.String x y (suc i) z e h = refl
  past_one (s.Entity name us) x y (suc i) z e h = refl
  past_one (s.Option held) x y (suc i) z e h = refl
  past_one (s.Record fields) x y i z e h = refl
  past_one s.Long x y i z e h = absurd cc
  past_one s.Decimal x y i z e h = absurd cc
  past_one s.Ip x y i z e h = absurd cc
  past_one (s.Set k) x y i z e h = absurd cc
  past_one _ x y zero z e h = absurd (omega (arith, h))

  half_past : (k : Sort-F Sort) (x y : Tree) (i : ℕ) (z : Option Tree) (count : ℕ) → Some count ≡ half_level k → count ≤ i → half_by k x y i z ≡ None
  half_past s.Long x y i z count e h = let is : count ≡ 64 = cc in past_bits i 64 _ (omega (arith, is, h))
  half_past s.Decimal x y i z count e h = let is : count ≡ 64 = cc in past_bits i 64 _ (omega (arith, is, h))
  half_past s.Ip x y i z count e h = let is : count ≡ 257 = cc in past_bits i 257 _ (omega (arith, is, h))
  half_past (s.Set k) x y i z count e h = absurd cc
  half_past (s.Record fields) x y i z count e h = refl
  half_past s.Bool x y i z count e h = let is : count ≡ 1 = cc in past_one s.Bool x y i z refl (omega (arith, is, h))
  half_past s.String x y i z count e h = let is : count ≡ 1 = cc in past_one s.String x y i z refl (omega (arith, is, h))
  half_past (s.Entity name us) x y i z count e h = let is : count ≡ 1 = cc in past_one (s.Entity name us) x y i z refl (omega (arith, is, h))
  half_past (s.Option held) x y i z count e h = let is : count ≡ 1 = cc in past_one (s.Option held) x y i z refl (omega (arith, is, h))

  pub number_free : (tags : Bool) (a : Place) (y count i : ℕ) → IsPlace p a → Some count ≡ half_level (out-Sort (tree_sort (tree p.nodes a.term))) → count ≤ i → IsFree p m (alike_rule tags a.number y i)
  number_free tags a y count i place level past = free_unless tags a.number y i (λ f. (
      let same : f.first ≡ tree p.nodes a.term = place_term p a f.first place f.first_is in
      let none = half_past (out-Sort (tree_sort f.first)) f.first f.second i (term_of p i) count (level ∙ ap (λ (t : Tree). half_level (out-Sort (tree_sort t))) (sym same)) past in
      absurd (nothing_out p m (subst Out none f.told))))

  breaks : (k : Sort-F Sort) (x y : Tree) (i : ℕ) (z : Option Tree) → Out (half_by k x y i z) → may_break_by k p m x i ≡ true
  breaks s.Long x y i z h = (given_out p m (nat_lt i 64) (unless (bit_term x i)) (so (bit_term y i)) [] h).1
  breaks s.Decimal x y i z h = (given_out p m (nat_lt i 64) (unless (bit_term x i)) (so (bit_term y i)) [] h).1
  breaks s.Ip x y i z h = (given_out p m (nat_lt i 257) (unless (bit_term x i)) (so (bit_term y i)) [] h).1
  breaks s.Bool x y i z h = refl
  breaks s.String x y i z h = refl
  breaks (s.Entity name us) x y i z h = refl
  breaks (s.Option held) x y i z h = refl
  breaks (s.Set k) x y i z h = refl
  breaks (s.Record fields) x y i z h = refl

  pub kept_free : (tags : Bool) (a : Place) (y i : ℕ) → IsPlace p a → may_break p m (tree p.nodes a.term) i ≡ false → IsFree p m (alike_rule tags a.number y i)
  kept_free tags a y i place e = free_unless tags a.number y i (λ f. (
      let same : f.first ≡ tree p.nodes a.term = place_term p a f.first place f.first_is in
      never (may_break p m f.first i) (breaks (out-Sort (tree_sort f.first)) f.first f.second i (term_of p i) f.told) (ap (λ (t : Tree). may_break p m t i) same ∙ e)))

  -- those below a number are free
  unfoldable pub AreBelow : Bool → ℕ → ℕ → ℕ → Type 0
  AreBelow tags x y n = (i : ℕ) → i < n → IsFree p m (alike_rule tags x y i)

  pub below_none : (tags : Bool) (x y : ℕ) → AreBelow tags x y 0
  unfolding AreBelow
  below_none tags x y i h = absurd (omega (arith, h))

  pub below_more : (tags : Bool) (x y n : ℕ) → IsFree p m (alike_rule tags x y n) → AreBelow tags x y n → AreBelow tags x y (n + 1)
  unfolding AreBelow
  below_more tags x y n here before i h =
      ⊎_elim (before i) (λ (past : n ≤ i). let same : n ≡ i = omega (arith, past, h) in subst (λ (j : ℕ). IsFree p m (alike_rule tags x y j)) same here) (cases_lt i n)

  pub below_all : (tags : Bool) (a : Place) (y count n : ℕ) → IsPlace p a → Some count ≡ half_level (out-Sort (tree_sort (tree p.nodes a.term))) → count ≤ n → AreBelow tags a.number y n → IsAlikeFree p m tags a.number y
  unfolding AreBelow
  below_all tags a y count n place level all before i =
      ⊎_elim (before i) (λ (past : n ≤ i). number_free tags a y count i place level (omega (arith, past, all))) (cases_lt i n)

  -- ---- the places of two roots

  beside : (run others : List Place) → ((a b : Place) → Has run a → Has others b → IsPairFree p m a b) → AllByRecursion (IsFreeBeside p m run) others
  beside run others h = Has-AllByRecursion (IsFreeBeside p m run) others (λ (b : Place) there. Has-AllByRecursion (λ (a : Place). IsPairFree p m a b) run (λ (a : Place) here. h a b here there))

  module _ (r q : ℕ) (run others : List Place) (first : AreRooted p r run) (second : AreRooted p q others) where
    first_place : (a : Place) → Has run a → IsPlace p a × (a.root ≡ r)
    unfolding AreRooted
    first_place a h = (AllByRecursion-Has (IsPlace p) run a first.1 h, AllByRecursion-Has (λ (k : Place). k.root ≡ r) run a first.0 h)

    second_place : (b : Place) → Has others b → IsPlace p b × (b.root ≡ q)
    unfolding AreRooted
    second_place b h = (AllByRecursion-Has (IsPlace p) others b second.1 h, AllByRecursion-Has (λ (k : Place). k.root ≡ q) others b second.0 h)

    pub one_root : IsPosed p → r ≡ q → AllByRecursion (IsFreeBeside p m run) others
    one_root posed e = beside run others (λ a b h g. (
        let one = first_place a h in
        let other = second_place b g in
        root_free posed a b one.0 other.0 (one.1 ∙ e ∙ sym other.1)))

    pub no_guard : guard_out p m (tree p.nodes r) (tree p.nodes q) ≡ false → AllByRecursion (IsFreeBeside p m run) others
    no_guard e = beside run others (λ a b h g. (
        let one = first_place a h in
        let other = second_place b g in
        guard_free a b one.0 other.0 ((λ i. guard_out p m (tree p.nodes (one.1 i)) (tree p.nodes (other.1 i))) ∙ e)))

    pub of_kind : (kind : Bool) → kind ≡ is_tag (tree p.nodes r) → AllByRecursion (λ (b : Place). AllByRecursion (λ (a : Place). IsAlikeFree p m kind a.number b.number) run) others → AllByRecursion (IsFreeBeside p m run) others
    of_kind kind e all = beside run others (λ a b h g. (
        let one = first_place a h in
        let each = AllByRecursion-Has (λ (c : Place). AllByRecursion (λ (d : Place). IsAlikeFree p m kind d.number c.number) run) others b all g in
        both_kinds a b kind one.0 (e ∙ ap (λ (i : ℕ). is_tag (tree p.nodes i)) (sym one.1)) (AllByRecursion-Has (λ (d : Place). IsAlikeFree p m kind d.number b.number) run a each h)))

  -- ---- all places

  abbrev pub IsFreeAmong : List Place → Place → Type 0
  IsFreeAmong places a = AllByRecursion (λ (b : Place). IsPairFree p m a b) places

  pub turned : (places run : List Place) → AllByRecursion (IsFreeBeside p m run) places → AllByRecursion (IsFreeAmong places) run
  turned places run all = Has-AllByRecursion (IsFreeAmong places) run (λ (a : Place) here. Has-AllByRecursion (λ (b : Place). IsPairFree p m a b) places (λ (b : Place) there.
      AllByRecursion-Has (λ (c : Place). IsPairFree p m c b) run a (AllByRecursion-Has (IsFreeBeside p m run) places b all there) here))

  abbrev pub AreAllFree : Type 0
  AreAllFree = (tags : Bool) (x y : ℕ) → IsAlikeFree p m tags x y

  placed : (places : List Place) → ArePlaces p places → (n : ℕ) → IsPlaced p places n
  unfolding ArePlaces
  placed places h = h.0

  pub all_free : (places : List Place) → ArePlaces p places → AllByRecursion (IsFreeAmong places) places → AreAllFree
  all_free places are all tags x y i = free_unless tags x y i by
    where
      by : IsFound tags x y i → IsFree p m (alike_rule tags x y i)
      by f =
          let roots_are = guard_roots (root f.first) (root f.second) f.guard in
          let one = placed places are x f.first f.first_is roots_are.0 in
          let other = placed places are y f.second f.second_is roots_are.1 in
          let free : IsPairFree p m one.place other.place = AllByRecursion-Has (λ (b : Place). IsPairFree p m one.place b) places other.place (AllByRecursion-Has (IsFreeAmong places) places one.place all one.there) other.there in
          subst (λ (n : ℕ). IsFree p m (alike_rule tags n y i)) one.is (subst (λ (n : ℕ). IsFree p m (alike_rule tags one.place.number n i)) other.is (free tags i))
