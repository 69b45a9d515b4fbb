-- A node makes a term just where its test passes.
use Rattle.std.proofs.Common.{◌≡◌, ◌↔◌, ◌<◌, ◌≤◌, ◌+◌, ℕ, List, [], ◌∷◌, ◌++◌, length, get_or, Bool, true, false, Result, IsTrue, IfOk, zero, suc, ◌⊎◌, inl, inr, refl, sym, ap, ◌∙◌, subst, arith}
use Rattle.std.proofs.Math.Nat.{eq-or-lt_of_le}
use Rattle.std.proofs.lemmas.List.{length-append}
use Rattle.sc_laws.proofs.BoolLaws.{and_first, and_second}
use Rattle.std.specs.List.{list_all}
use Rattle.std.specs.Map.{keys_of}
use Rattle.sc_sorts.specs.declared.sort.Sort.{Sort}
use Rattle.sc_names.specs.declared.uid.Uid.{Uid}
use Rattle.sc_schema.specs.declared.declarations.Env.{Env}
use Rattle.sc_schema.specs.Declarations.{Declarations}
use Rattle.sc_sorts.specs.declared.node.Leaf.{Leaf}
use Rattle.sc_sorts.specs.declared.node.UnaryOp.{UnaryOp}
use Rattle.sc_sorts.specs.declared.node.BinaryOp.{BinaryOp}
use Rattle.sc_sorts.specs.declared.node.ManyOp.{ManyOp}
use Rattle.sc_sorts.specs.declared.node.ManyOp.TheVariants as manys
use Rattle.sc_sorts.specs.declared.node.Node.{Node}
use Rattle.sc_sorts.specs.declared.node.Node.TheVariants as node
use Rattle.sc_sorts.specs.NodeSorts.{leaf_sort}
use Rattle.sc_terms.specs.Trees.{Tree, leaf, one, two, choice}
use Rattle.sc_terms.specs.Tables.{Places, tree, node_tree, at_numbers, AreBelow, PartsAreBelow}
use Rattle.sc_terms.specs.TreeSorts.{tree_sort}
use Rattle.sc_term_laws.specs.Judging.{IsTermOf}
use Rattle.sc_term_laws.specs.Judged.{is_good, are_good, is_one, is_two, is_choice, AreJudged, IsMany, IsManyBy}
use Rattle.sc_term_laws.specs.LawfulSorts.{AreNames, IsHeldSort}
use Rattle.sc_term_laws.specs.Tests.{member_test}
use Rattle.sc_term_laws.proofs.UnaryJudged.{unary_made, unary_kept}
use Rattle.sc_term_laws.proofs.BinaryJudged.{binary_made, binary_kept, choice_made, choice_kept}
use Rattle.sc_term_laws.proofs.ManyJudged.{many_by}
use Rattle.sc_term_laws.proofs.ToldLaws.{by_fact, by_test}
use Rattle.std.specs.Cmp.Derive.{both_true}

module _ (d : Declarations) (env : Env) (written : List Uid) (xs : List Node) where
  abbrev IsTerm : Tree → Type 0
  IsTerm t = IsTermOf d env written (tree_sort t) t

  abbrev Told : {E : Type 0} → Result Bool E → Node → Type 0
  Told r x = IfOk r (λ b. IsTrue b ↔ IsTerm (node_tree xs x))

  module _ (good : List Bool) (told : AreJudged d env written xs good) where
    one_is : (o : UnaryOp) (a : ℕ) → a < length good → (is_one d xs good o a ≡ true) ↔ IsTerm (one o (tree xs a))
    unfolding tree_sort
    one_is o a below = (
      λ h. unary_made d env written o (tree xs a) ((told a below).0 (and_first _ _ h)) (and_second (is_good good a) _ h),
      λ h. let p = unary_kept d env written _ o (tree xs a) h in both_true ((told a below).1 p.0) p.1,
    )

    two_is : (o : BinaryOp) (a b : ℕ) → a < length good → b < length good → (is_two d xs good o a b ≡ true) ↔ IsTerm (two o (tree xs a) (tree xs b))
    unfolding tree_sort
    two_is o a b first second = (
      λ h.
          let goods = and_first (are_good good a b) _ h in
          binary_made d env written (tree xs a) (tree xs b) ((told a first).0 (and_first _ _ goods)) ((told b second).0 (and_second (is_good good a) _ goods)) o (and_second (are_good good a b) _ h),
      λ h.
          let p = binary_kept d env written _ o (tree xs a) (tree xs b) h in
          both_true (both_true ((told a first).1 p.0) ((told b second).1 p.1)) p.2,
    )

    choice_is : (c a b : ℕ) → c < length good → a < length good → b < length good → (is_choice xs good c a b ≡ true) ↔ IsTerm (choice (tree xs c) (tree xs a) (tree xs b))
    unfolding tree_sort
    choice_is c a b zeroth first second = (
      λ h.
          let rest = and_second (is_good good c) _ h in
          let goods = and_first (are_good good a b) _ rest in
          choice_made d env written (tree xs c) (tree xs a) (tree xs b) ((told c zeroth).0 (and_first _ _ h)) ((told a first).0 (and_first _ _ goods)) ((told b second).0 (and_second (is_good good a) _ goods))
          (and_second (are_good good a b) _ rest),
      λ h.
          let p = choice_kept d env written _ (tree xs c) (tree xs a) (tree xs b) h in
          both_true ((told c zeroth).1 p.0) (both_true (both_true ((told a first).1 p.1) ((told b second).1 p.2)) p.3),
    )

    pub one_told : {E : Type 0} (r : Result Bool E) (x : Node) (o : UnaryOp) (a : ℕ) → x ≡ node.One o a → PartsAreBelow (length good) x → IfOk r (λ b. b ≡ is_one d xs good o a) → Told r x
    one_told r x o a is below h = subst (Told r) (sym is) (by_test r _ (one_is o a (subst (PartsAreBelow (length good)) is below)) h)

    pub two_told : {E : Type 0} (r : Result Bool E) (x : Node) (o : BinaryOp) (a b : ℕ) → x ≡ node.Two o a b → PartsAreBelow (length good) x → IfOk r (λ t. t ≡ is_two d xs good o a b) → Told r x
    two_told r x o a b is below h =
        let parts = subst (PartsAreBelow (length good)) is below in
        subst (Told r) (sym is) (by_test r _ (two_is o a b parts.0 parts.1) h)

    pub choice_told : (t : Bool) (x : Node) (c a b : ℕ) → x ≡ node.Choice c a b → PartsAreBelow (length good) x → t ≡ is_choice xs good c a b → IsTrue t ↔ IsTerm (node_tree xs x)
    choice_told t x c a b is below h =
        let parts = subst (PartsAreBelow (length good)) is below in
        let same = choice_is c a b parts.0 parts.1 parts.2 in
        subst (λ (y : Node). IsTrue t ↔ IsTerm (node_tree xs y)) (sym is) (λ e. same.0 (sym h ∙ e), λ q. h ∙ same.1 q)

    pub many_told : {E : Type 0} (r : Result Bool E) (x : Node) (o : ManyOp) (ps : Places) → x ≡ node.Many o ps → PartsAreBelow (length good) x → IfOk r (λ b. IsTrue b ↔ IsMany d xs good o ps) → Told r x
    many_told r x o ps is below h =
        subst (Told r) (sym is) (by_fact r (many_by d env written xs good told o ps (subst (PartsAreBelow (length good)) is below)) h)

  pub leaf_told : {E : Type 0} (r : Result Bool E) (x : Node) (l : Leaf) → x ≡ node.Leaf l → IfOk r (λ b. IsTrue b ↔ IsTermOf d env written (leaf_sort l) (leaf l)) → Told r x
  unfolding tree_sort
  leaf_told r x l is h = subst (Told r) (sym is) h

-- ---- one more

get_before : (good : List Bool) (b : Bool) (n : ℕ) → n < length good → get_or (good ++ b ∷ []) n false ≡ get_or good n false
get_before [] b n h = absurd (omega (arith, h))
get_before (g ∷ good) b zero h = refl
get_before (g ∷ good) b (suc n) h = get_before good b n (omega arith)

get_last : (good : List Bool) (b : Bool) → get_or (good ++ b ∷ []) (length good) false ≡ b
get_last [] b = refl
get_last (g ∷ good) b = get_last good b

pub one_more : (d : Declarations) (env : Env) (written : List Uid) (xs : List Node) (good : List Bool) (b : Bool) → AreJudged d env written xs good
    → (IsTrue b ↔ IsTermOf d env written (tree_sort (tree xs (length good))) (tree xs (length good))) → AreJudged d env written xs (good ++ b ∷ [])
one_more d env written xs good b told h n below =
    let within : n ≤ length good = omega (arith, below, length-append good (b ∷ [])) in
    by (eq-or-lt_of_le within)
  where
    here : ℕ → Type 0
    here m = IsTrue (is_good (good ++ b ∷ []) m) ↔ IsTermOf d env written (tree_sort (tree xs m)) (tree xs m)

    by : (n ≡ length good) ⊎ (n < length good) → here n
    by (inr less) = subst (λ (t : Bool). IsTrue t ↔ IsTermOf d env written (tree_sort (tree xs n)) (tree xs n)) (sym (get_before good b n less)) (told n less)
    by (inl same) = subst here (sym same) (subst (λ (t : Bool). IsTrue t ↔ IsTermOf d env written (tree_sort (tree xs (length good))) (tree xs (length good))) (sym (get_last good b)) h)

-- the same by other names
pub more_judged : (d : Declarations) (env : Env) (written : List Uid) (xs : List Node) (good new : List Bool) (b : Bool) (i : ℕ) (x : Node) → AreJudged d env written xs good → length good ≡ i
    → (IsTrue b ↔ IsTermOf d env written (tree_sort (node_tree xs x)) (node_tree xs x)) → tree xs i ≡ node_tree xs x → new ≡ good ++ b ∷ [] → AreJudged d env written xs new
more_judged d env written xs good new b i x told size h stands is =
    let here : tree xs (length good) ≡ node_tree xs x = ap (tree xs) size ∙ stands in
    let judged : IsTrue b ↔ IsTermOf d env written (tree_sort (tree xs (length good))) (tree xs (length good)) = subst (λ (t : Tree). IsTrue b ↔ IsTermOf d env written (tree_sort t) t) (sym here) h in
    subst (AreJudged d env written xs) (sym is) (one_more d env written xs good b told judged)

pub judged_at : (d : Declarations) (env : Env) (written : List Uid) (xs : List Node) (good : List Bool) (n : ℕ) (b : Bool) → AreJudged d env written xs good → n < length good → b ≡ is_good good n
    → IsTrue b ↔ IsTermOf d env written (tree_sort (tree xs n)) (tree xs n)
judged_at d env written xs good n b told within is = subst (λ (t : Bool). IsTrue t ↔ IsTermOf d env written (tree_sort (tree xs n)) (tree xs n)) (sym is) (told n within)

-- ---- parts that are below

pub parts_at : (x : Node) (m n : ℕ) → PartsAreBelow m x → n ≡ m → PartsAreBelow n x
parts_at x m n h e = subst (λ (k : ℕ). PartsAreBelow k x) (sym e) h

pub one_below : (x : Node) (o : UnaryOp) (a m n : ℕ) → x ≡ node.One o a → PartsAreBelow m x → m ≤ n → a < n
one_below x o a m n is h le = let p : a < m = subst (PartsAreBelow m) is h in omega (arith, p, le)

pub first_below : (x : Node) (o : BinaryOp) (a b m n : ℕ) → x ≡ node.Two o a b → PartsAreBelow m x → m ≤ n → a < n
first_below x o a b m n is h le = let p = subst (PartsAreBelow m) is h in let q : a < m = p.0 in omega (arith, q, le)

pub second_below : (x : Node) (o : BinaryOp) (a b m n : ℕ) → x ≡ node.Two o a b → PartsAreBelow m x → m ≤ n → b < n
second_below x o a b m n is h le = let p = subst (PartsAreBelow m) is h in let q : b < m = p.1 in omega (arith, q, le)

pub condition_below : (x : Node) (c a b m n : ℕ) → x ≡ node.Choice c a b → PartsAreBelow m x → m ≤ n → c < n
condition_below x c a b m n is h le = let p = subst (PartsAreBelow m) is h in let q : c < m = p.0 in omega (arith, q, le)

pub then_below : (x : Node) (c a b m n : ℕ) → x ≡ node.Choice c a b → PartsAreBelow m x → m ≤ n → a < n
then_below x c a b m n is h le = let p = subst (PartsAreBelow m) is h in let q : a < m = p.1 in omega (arith, q, le)

pub else_below : (x : Node) (c a b m n : ℕ) → x ≡ node.Choice c a b → PartsAreBelow m x → m ≤ n → b < n
else_below x c a b m n is h le = let p = subst (PartsAreBelow m) is h in let q : b < m = p.2 in omega (arith, q, le)

pub many_below : (x : Node) (o : ManyOp) (ps : Places) (m : ℕ) → x ≡ node.Many o ps → PartsAreBelow m x → AreBelow m ps
many_below x o ps m is h = subst (PartsAreBelow m) is h

pub all_below : (ps : Places) (m n : ℕ) → AreBelow m ps → m ≤ n → AreBelow n ps
all_below [] m n h le = tt
all_below (p ∷ ps) m n h le = (omega (arith, h.0, le), all_below ps m n h.1 le)

-- ---- a test of parts, and then of labels

pub parts_fail : {Q : Type 0} (a t : Bool) → a ≡ t → a ≡ false → IsTrue false ↔ (IsTrue t × Q)
parts_fail a t is e = (λ h. absurd cc, λ both. let f : true ≡ false = sym both.0 ∙ sym is ∙ e in cc)

pub parts_hold : {Q : Type 0} (a t b : Bool) → a ≡ t → a ≡ true → (IsTrue b ↔ Q) → IsTrue b ↔ (IsTrue t × Q)
parts_hold a t b is e q = (λ h. (sym is ∙ e, q.0 h), λ both. q.1 both.1)

pub names_labelled : (d : Declarations) (xs : List Node) (o : ManyOp) (ps : Places) (b : Bool) → o ≡ manys.Record → (IsTrue b ↔ AreNames (keys_of ps)) → IsTrue b ↔ IsManyBy d xs o ps
names_labelled d xs o ps b is told = subst (λ (p : ManyOp). IsTrue b ↔ IsManyBy d xs p ps) (sym is) told

pub set_labelled : {E : Type 0} (d : Declarations) (xs : List Node) (o : ManyOp) (k : Sort) (ps : Places) (r : Result Bool E) → o ≡ manys.Set k
    → IfOk r (λ b. IsTrue b ↔ (IsHeldSort d k × IsTrue (list_all (member_test k) (at_numbers xs ps)))) → IfOk r (λ b. IsTrue b ↔ IsManyBy d xs o ps)
set_labelled d xs o k ps r is told = subst (λ (p : ManyOp). IfOk r (λ b. IsTrue b ↔ IsManyBy d xs p ps)) (sym is) told
