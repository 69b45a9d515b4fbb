-- The numbers of atoms, and the literals of closed terms.
use Rattle.std.proofs.Common.{◌≡◌, ◌↔◌, ℕ, zero, suc, ◌+◌, ◌-◌, ◌<◌, ◌≤◌, ◌==◌, Bool, true, false, cond, inl, inr, List, [], ◌∷◌, map, filter, length, slice_get, Some, None, option_map, refl, sym, ap, ◌∙◌, arith}
use Rattle.std.proofs.lemmas.Bool.Decides.{nat_tests}
use Rattle.std.proofs.lemmas.Cmp.{tied_itself}
use Rattle.std.proofs.lemmas.Option.{slice_get-map}
use Rattle.std.proofs.lemmas.List.Kept.{IsStrictlySortedBy-filter}
use Rattle.std.specs.Cmp.{IsTotalOrder}
use Rattle.std.specs.List.Sorted.{IsStrictlySortedBy}
use Rattle.std.specs.Ordering.{is_eq, is_lt}
use Rattle.std.specs.declared.cmp.Ordering.TheVariants.{Less, Equal}
use Rattle.sc_lists.specs.Members.{Has}
use Rattle.sc_lists.proofs.OrderingLaws.{is_eq_true}
use Rattle.sc_sorts.specs.declared.node.Leaf.TheVariants as leafs
use Rattle.sc_sorts.specs.declared.node.Literal.TheVariants as literals
use Rattle.sc_sorts.specs.declared.node.UnaryOp.TheVariants as unary
use Rattle.sc_sorts.specs.declared.node.BinaryOp.TheVariants as binary
use Rattle.sc_sorts.specs.declared.node.ManyOp.TheVariants as manys
use Rattle.sc_terms.specs.Trees.{Tree, leaf, one, two, choice, many}
use Rattle.sc_terms.specs.Order.{tree_cmp, tree_eq}
use Rattle.sc_terms.specs.Folds.{truth_term}
use Rattle.sc_closure.specs.Atoms.{is_atom, atoms_among}
use Rattle.sc_closure.specs.Places.{one_more}
use Rattle.sc_footprint.specs.Problems.{numbered, number_among}
use Rattle.sc_term_order.proofs.OrderingLaws.{after}

-- ---- a term's number, and the term of a number

pub at_suc : (xs : List Tree) (k : ℕ) → numbered xs (suc k) ≡ slice_get xs k
at_suc xs k =
    let some : (suc k == 0) ≡ false = grind (arith, nat_tests) in
    let back : suc k - 1 ≡ k = omega arith in
    rw some (ap (slice_get xs) back)

-- of a list that is mapped, and of numbers below one
pub numbered_map : {X Y : Type 0} (f : X → Y) (xs : List X) (n : ℕ) → option_map f (numbered xs n) ≡ numbered (map f xs) n
numbered_map {X} {Y} f xs n = by (n == 0)
  where
    by : (b : Bool) → option_map f (cond b None (slice_get xs (n - 1))) ≡ cond b None (slice_get (map f xs) (n - 1))
    by true = refl
    by false = sym (slice_get-map f xs (n - 1))

further : (x : Tree) (xs : List Tree) (k : ℕ) (t : Tree) → numbered xs k ≡ Some t → numbered (x ∷ xs) (one_more k) ≡ Some t
further x xs zero t h = cc
further x xs (suc k) t h =
    let back : suc k + 1 - 1 ≡ suc k = omega arith in
    let here : (suc k == 0) ≡ false = grind (arith, nat_tests) in
    let some : (suc k + 1 == 0) ≡ false = grind (arith, nat_tests) in
    let old : slice_get xs k ≡ Some t = sym (at_suc xs k) ∙ h in
    rw (here, some, back) old

module _ (level : (a b : Tree) → tree_cmp a b ≡ Equal ↔ a ≡ b) where
  same_term : (x t : Tree) → tree_eq x t ≡ true → x ≡ t
  unfolding tree_eq
  same_term x t h = (level x t).0 (is_eq_true (tree_cmp x t) h)

  one_term : (x t : Tree) → x ≡ t → tree_eq x t ≡ true
  unfolding tree_eq
  one_term x t e = ap is_eq ((level x t).1 e)

  -- the number of a term that is there is that of the term
  pub numbered_back : (ts : List Tree) (t : Tree) → Has ts t → numbered ts (number_among ts t) ≡ Some t
  numbered_back [] t h = absurd h
  numbered_back (x ∷ xs) t h = by (tree_eq x t) refl h (numbered_back xs t)
    where
      by : (b : Bool) → tree_eq x t ≡ b → Has (x ∷ xs) t → (Has xs t → numbered xs (number_among xs t) ≡ Some t) → numbered (x ∷ xs) (cond b 1 (one_more (number_among xs t))) ≡ Some t
      by true e p rest = ap Some (same_term x t e)
      by false e (inl q) rest = absurd (let f : true ≡ false = sym (one_term x t q) ∙ e in cc)
      by false e (inr q) rest = further x xs (number_among xs t) t (rest q)

pub within_count : (ts : List Tree) (n : ℕ) (t : Tree) → numbered ts n ≡ Some t → (0 < n) × (n ≤ length ts)
within_count ts zero t h = cc
within_count ts (suc n) t h = let k : n < length ts = read ts n (sym (at_suc ts n) ∙ h) in (omega arith, omega (arith, k))
  where
    read : (us : List Tree) (m : ℕ) → slice_get us m ≡ Some t → m < length us
    read [] m p = cc
    read (u ∷ us) zero p = omega arith
    read (u ∷ us) (suc m) p = omega (arith, read us m p)

-- ---- `true` comes first

module _ (total : IsTotalOrder tree_cmp) where
  -- no term is before it
  least : (x : Tree) → tree_cmp x (truth_term true) ≡ Less → ⊥
  unfolding tree_cmp
  least (leaf (leafs.Literal (literals.Bool true))) h = let e : Equal ≡ Less = sym (tied_itself total (truth_term true)) ∙ h in let f : true ≡ false = ap is_eq e in cc
  least (leaf (leafs.Literal (literals.Bool false))) h = let f : true ≡ false = sym (ap is_lt h) in cc
  least (leaf (leafs.Literal (literals.Long n))) h = let f : true ≡ false = sym (ap is_lt h) in cc
  least (leaf (leafs.Literal (literals.String n))) h = let f : true ≡ false = sym (ap is_lt h) in cc
  least (leaf (leafs.Literal (literals.Decimal n))) h = let f : true ≡ false = sym (ap is_lt h) in cc
  least (leaf (leafs.Literal (literals.Ip n))) h = let f : true ≡ false = sym (ap is_lt h) in cc
  least (leaf (leafs.Literal (literals.Entity u us))) h = let f : true ≡ false = sym (ap is_lt h) in cc
  least (leaf (leafs.None s)) h = let f : true ≡ false = sym (ap is_lt h) in cc
  least (leaf (leafs.Principal s)) h = let f : true ≡ false = sym (ap is_lt h) in cc
  least (leaf (leafs.Resource s)) h = let f : true ≡ false = sym (ap is_lt h) in cc
  least (leaf (leafs.Context s)) h = let f : true ≡ false = sym (ap is_lt h) in cc
  least (one unary.Not a) h = let f : true ≡ false = sym (ap is_lt h) in cc
  least (one (unary.Bit i) a) h = let f : true ≡ false = sym (ap is_lt h) in cc
  least (one (unary.CarryIn i) a) h = let f : true ≡ false = sym (ap is_lt h) in cc
  least (one (unary.ProductRow i j) a) h = let f : true ≡ false = sym (ap is_lt h) in cc
  least (one (unary.ProductCarry i j) a) h = let f : true ≡ false = sym (ap is_lt h) in cc
  least (one (unary.Attributes s) a) h = let f : true ≡ false = sym (ap is_lt h) in cc
  least (one (unary.Ancestors s) a) h = let f : true ≡ false = sym (ap is_lt h) in cc
  least (one unary.Keys a) h = let f : true ≡ false = sym (ap is_lt h) in cc
  least (one (unary.Field name) a) h = let f : true ≡ false = sym (ap is_lt h) in cc
  least (one unary.Present a) h = let f : true ≡ false = sym (ap is_lt h) in cc
  least (one unary.Held a) h = let f : true ≡ false = sym (ap is_lt h) in cc
  least (one (unary.Like p) a) h = let f : true ≡ false = sym (ap is_lt h) in cc
  least (two binary.And a b) h = let f : true ≡ false = sym (ap is_lt h) in cc
  least (two binary.Or a b) h = let f : true ≡ false = sym (ap is_lt h) in cc
  least (two binary.Equal a b) h = let f : true ≡ false = sym (ap is_lt h) in cc
  least (two binary.Add a b) h = let f : true ≡ false = sym (ap is_lt h) in cc
  least (two binary.Subtract a b) h = let f : true ≡ false = sym (ap is_lt h) in cc
  least (two binary.Multiply a b) h = let f : true ≡ false = sym (ap is_lt h) in cc
  least (two binary.AddOverflows a b) h = let f : true ≡ false = sym (ap is_lt h) in cc
  least (two binary.SubtractOverflows a b) h = let f : true ≡ false = sym (ap is_lt h) in cc
  least (two binary.MultiplyOverflows a b) h = let f : true ≡ false = sym (ap is_lt h) in cc
  least (two binary.Less a b) h = let f : true ≡ false = sym (ap is_lt h) in cc
  least (two binary.InRange a b) h = let f : true ≡ false = sym (ap is_lt h) in cc
  least (two (binary.Low i) a b) h = let f : true ≡ false = sym (ap is_lt h) in cc
  least (two (binary.Tag s) a b) h = let f : true ≡ false = sym (ap is_lt h) in cc
  least (two binary.Member a b) h = let f : true ≡ false = sym (ap is_lt h) in cc
  least (two binary.Subset a b) h = let f : true ≡ false = sym (ap is_lt h) in cc
  least (two binary.Common a b) h = let f : true ≡ false = sym (ap is_lt h) in cc
  least (two binary.DifferencePick a b) h = let f : true ≡ false = sym (ap is_lt h) in cc
  least (two binary.CommonPick a b) h = let f : true ≡ false = sym (ap is_lt h) in cc
  least (choice c a b) h = let f : true ≡ false = sym (ap is_lt h) in cc
  least (many manys.Record ts) h = let f : true ≡ false = sym (ap is_lt h) in cc
  least (many (manys.Set s) ts) h = let f : true ≡ false = sym (ap is_lt h) in cc

  first_is : (ts : List Tree) → IsStrictlySortedBy tree_cmp ts → Has ts (truth_term true) → numbered ts 1 ≡ Some (truth_term true)
  unfolding IsStrictlySortedBy
  first_is [] h k = absurd k
  first_is (x ∷ xs) h (inl e) = ap Some e
  first_is (x ∷ xs) h (inr k) = absurd (least x (after tree_cmp x xs h.0 (truth_term true) k))

-- ---- atoms

pub Has-filter : (p : Tree → Bool) (ts : List Tree) (t : Tree) → Has ts t → p t ≡ true → Has (filter p ts) t
Has-filter p [] t h e = absurd h
Has-filter p (x ∷ xs) t h e = by (p x) refl h (λ k. Has-filter p xs t k e)
  where
    by : (b : Bool) → p x ≡ b → Has (x ∷ xs) t → (Has xs t → Has (filter p xs) t) → Has (cond b (x ∷ filter p xs) (filter p xs)) t
    by true f (inl q) rest = inl q
    by true f (inr q) rest = inr (rest q)
    by false f (inl q) rest = absurd (let g : true ≡ false = sym e ∙ ap p (sym q) ∙ f in cc)
    by false f (inr q) rest = rest q

pub atom_one : IsTotalOrder tree_cmp → (ts : List Tree) → IsStrictlySortedBy tree_cmp ts → Has ts (truth_term true) → is_atom (truth_term true) ≡ true → numbered (atoms_among ts) 1 ≡ Some (truth_term true)
atom_one total ts sorted there atom = first_is total (atoms_among ts) (IsStrictlySortedBy-filter tree_cmp is_atom ts sorted) (Has-filter is_atom ts (truth_term true) there atom)
