-- The literal of a closed truth value is of a listed atom, and is true where the term is.
use Rattle.std.proofs.Common.{◌≡◌, ◌↔◌, ℕ, ◌<◌, ◌≤◌, Bool, true, false, not, List, length, Option, Some, Contains, refl, sym, ap, ◌∙◌}
use Rattle.std.specs.Cmp.{IsTotalOrder}
use Rattle.std.specs.declared.cmp.Ordering.TheVariants.{Equal as Level}
use Rattle.sc_lists.proofs.MemberLaws.{Has-from_Contains, Contains-from_Has}
use Rattle.sc_lists.specs.Members.{Has}
use Rattle.sc_names.specs.declared.uid.Uid.{Uid}
use Rattle.sc_clauses.proofs.LitLaws.{holds_negation}
use Rattle.sc_clauses.specs.Clauses.{bool_eq, holds, positive}
use Rattle.sc_schema.specs.declared.declarations.Env.{Env}
use Rattle.sc_schema.specs.Declarations.{Declarations}
use Rattle.sc_schema.specs.Lawful.{IsLawful}
use Rattle.sc_world.specs.declared.world.World.{World}
use Rattle.sc_sorts.specs.declared.sort.Sort.{Sort, Sort-F, out-Sort, roll-Sort, roll-out-Sort}
use Rattle.sc_sorts.specs.declared.sort.Sort.TheVariants as sort
use Rattle.sc_sorts.specs.declared.sort.Sort.TheVariants.{rolls-Bool}
use Rattle.sc_sorts.specs.declared.sort.Sort.TheOpen as s
use Rattle.sc_sorts.proofs.OutLaws.{out_Bool}
use Rattle.sc_sorts.specs.declared.node.Leaf.TheVariants as leafs
use Rattle.sc_sorts.specs.declared.node.Literal.TheVariants as literals
use Rattle.sc_sorts.specs.declared.node.UnaryOp.TheVariants as unary
use Rattle.sc_sorts.specs.declared.node.BinaryOp.TheVariants as binary
use Rattle.sc_sorts.specs.declared.node.ManyOp.TheVariants as manys
use Rattle.sc_terms.specs.Trees.{Tree, leaf, one, two, choice, many}
use Rattle.sc_terms.specs.TreeSorts.{tree_sort}
use Rattle.sc_terms.specs.Order.{tree_cmp}
use Rattle.sc_terms.specs.Folds.{truth_term}
use Rattle.sc_terms.specs.Values.{Val, val, yes, truth, not_value}
use Rattle.sc_terms.proofs.FoldValues.{truth_yes, seen_yes}
use Rattle.sc_closure.specs.Judging.{IsTermOf}
use Rattle.sc_closure.specs.Truths.{is_true}
use Rattle.sc_closure.specs.Atoms.{is_atom, is_bool, is_bool_in, is_opposite}
use Rattle.sc_closure.specs.Closure.{follow, Closed, of_true, of_goal, next}
use Rattle.sc_closure.specs.Goals.{IsGoal}
use Rattle.sc_footprint.specs.Problems.{Posed, IsPosed, closed_terms, goal_term, atoms, atom_number, numbered, literal, literal_in}
use Rattle.sc_footprint.specs.Truths.{is_true_at, truths}
use Rattle.sc_footprint.specs.Theories.{IsListed}
use Rattle.sc_footprint.proofs.NumberingLaws.{Has-filter, numbered_back, within_count, atom_one}

-- ---- truth values

pub holds_positive : (f : ℕ → Bool) (n : ℕ) → holds f (positive n) ≡ f n
holds_positive f n = by (f n)
  where
    by : (a : Bool) → bool_eq a true ≡ a
    by true = refl
    by false = refl

pub atom_is : (x : Tree) → is_bool x ≡ true → is_opposite x ≡ false → is_atom x ≡ true
atom_is x h k = rw (h, k) refl

pub truth_sort : (b : Bool) → is_bool (truth_term b) ≡ true
unfolding tree_sort
truth_sort b = ap is_bool_in out_Bool

-- a sort of truth values
bool_level : (k : Sort-F Sort) → is_bool_in k ≡ true → k ≡ s.Bool
bool_level s.Bool h = refl
bool_level _ h = cc

pub bool_sort : (t : Tree) → is_bool t ≡ true → tree_sort t ≡ sort.Bool
bool_sort t h = sym (roll-out-Sort (tree_sort t)) ∙ ap roll-Sort (bool_level (out-Sort (tree_sort t)) h) ∙ rolls-Bool

not_truth : (x : Val) (b : Bool) → x ≡ yes b → truth (not_value x) ≡ not (truth x)
unfolding not_value
not_truth x b e = rw (e, seen_yes b, truth_yes b) (truth_yes (not b))

true_truth : (b : Bool) (w : World) → is_true (truth_term b) w ≡ b
unfolding val
true_truth b w = truth_yes b

-- Terms of a problem: the order of terms, that closed terms are terms of their sorts, and that such truth values are so in each world, come
-- from below.
module _ (total : IsTotalOrder tree_cmp) (level : (a b : Tree) → tree_cmp a b ≡ Level ↔ a ≡ b)
    (closed_made : (d : Declarations) (env : Env) (written : List Uid) (goal t : Tree) → IsLawful d → IsGoal d env written goal → Closed d env goal t → IsTermOf d env written (tree_sort t) t)
    (p : Posed) (posed : IsPosed p) where
  pub closed_is : (t : Tree) → Contains (closed_terms p) t → Closed p.schema p.env (goal_term p) t
  closed_is t h = (posed.are_closed.just t).0 h

  pub judged : (t : Tree) → Contains (closed_terms p) t → IsTermOf p.schema p.env p.literals (tree_sort t) t
  judged t h = closed_made p.schema p.env p.literals (goal_term p) t posed.lawful posed.goal_is (closed_is t h)

  pub follow_closed : (t u : Tree) → Contains (closed_terms p) t → Has (follow p.schema t) u → Contains (closed_terms p) u
  follow_closed t u h k = (posed.are_closed.just u).1 (next t u (closed_is t h) (Contains-from_Has (follow p.schema t) u k))

  true_closed : Contains (closed_terms p) (truth_term true)
  true_closed = (posed.are_closed.just (truth_term true)).1 of_true

  pub goal_closed : Contains (closed_terms p) (goal_term p)
  goal_closed = (posed.are_closed.just (goal_term p)).1 of_goal

  pub first_atom : numbered (atoms p) 1 ≡ Some (truth_term true)
  first_atom = atom_one total (closed_terms p) posed.are_closed.ordered (Has-from_Contains (closed_terms p) (truth_term true) true_closed) (atom_is (truth_term true) (truth_sort true) refl)

  pub atom_back : (t : Tree) → Contains (closed_terms p) t → is_atom t ≡ true → numbered (atoms p) (atom_number p t) ≡ Some t
  atom_back t h k = numbered_back level (atoms p) t (Has-filter is_atom (closed_terms p) t (Has-from_Contains (closed_terms p) t h) k)

  listed_atom : (t : Tree) → Contains (closed_terms p) t → is_bool t ≡ true → is_opposite t ≡ false → (0 < atom_number p t) × (atom_number p t ≤ length (atoms p))
  listed_atom t h k o = within_count (atoms p) (atom_number p t) t (atom_back t h (atom_is t k o))

  -- what a closed negation negates is a closed truth value
  module _ (negated : (a : Tree) → Contains (closed_terms p) (one unary.Not a) → Contains (closed_terms p) a × (is_bool a ≡ true)) where
    pub listed : (t : Tree) → Contains (closed_terms p) t → is_bool t ≡ true → IsListed (length (atoms p)) (literal_in p t)
    unfolding literal
    listed (leaf (leafs.Literal (literals.Bool true))) h k = listed_atom (leaf (leafs.Literal (literals.Bool true))) h k refl
    listed (leaf (leafs.Literal (literals.Bool false))) h k = within_count (atoms p) 1 (truth_term true) first_atom
    listed (leaf (leafs.Literal (literals.Long n))) h k = listed_atom (leaf (leafs.Literal (literals.Long n))) h k refl
    listed (leaf (leafs.Literal (literals.String n))) h k = listed_atom (leaf (leafs.Literal (literals.String n))) h k refl
    listed (leaf (leafs.Literal (literals.Decimal n))) h k = listed_atom (leaf (leafs.Literal (literals.Decimal n))) h k refl
    listed (leaf (leafs.Literal (literals.Ip n))) h k = listed_atom (leaf (leafs.Literal (literals.Ip n))) h k refl
    listed (leaf (leafs.Literal (literals.Entity u us))) h k = listed_atom (leaf (leafs.Literal (literals.Entity u us))) h k refl
    listed (leaf (leafs.None s)) h k = listed_atom (leaf (leafs.None s)) h k refl
    listed (leaf (leafs.Principal s)) h k = listed_atom (leaf (leafs.Principal s)) h k refl
    listed (leaf (leafs.Resource s)) h k = listed_atom (leaf (leafs.Resource s)) h k refl
    listed (leaf (leafs.Context s)) h k = listed_atom (leaf (leafs.Context s)) h k refl
    listed (one unary.Not a) h k = let n = negated a h in listed a n.0 n.1
    listed (one (unary.Bit i) a) h k = listed_atom (one (unary.Bit i) a) h k refl
    listed (one (unary.CarryIn i) a) h k = listed_atom (one (unary.CarryIn i) a) h k refl
    listed (one (unary.ProductRow i j) a) h k = listed_atom (one (unary.ProductRow i j) a) h k refl
    listed (one (unary.ProductCarry i j) a) h k = listed_atom (one (unary.ProductCarry i j) a) h k refl
    listed (one (unary.Attributes s) a) h k = listed_atom (one (unary.Attributes s) a) h k refl
    listed (one (unary.Ancestors s) a) h k = listed_atom (one (unary.Ancestors s) a) h k refl
    listed (one unary.Keys a) h k = listed_atom (one unary.Keys a) h k refl
    listed (one (unary.Field name) a) h k = listed_atom (one (unary.Field name) a) h k refl
    listed (one unary.Present a) h k = listed_atom (one unary.Present a) h k refl
    listed (one unary.Held a) h k = listed_atom (one unary.Held a) h k refl
    listed (one (unary.Like p) a) h k = listed_atom (one (unary.Like p) a) h k refl
    listed (two binary.And a b) h k = listed_atom (two binary.And a b) h k refl
    listed (two binary.Or a b) h k = listed_atom (two binary.Or a b) h k refl
    listed (two binary.Equal a b) h k = listed_atom (two binary.Equal a b) h k refl
    listed (two binary.Add a b) h k = listed_atom (two binary.Add a b) h k refl
    listed (two binary.Subtract a b) h k = listed_atom (two binary.Subtract a b) h k refl
    listed (two binary.Multiply a b) h k = listed_atom (two binary.Multiply a b) h k refl
    listed (two binary.AddOverflows a b) h k = listed_atom (two binary.AddOverflows a b) h k refl
    listed (two binary.SubtractOverflows a b) h k = listed_atom (two binary.SubtractOverflows a b) h k refl
    listed (two binary.MultiplyOverflows a b) h k = listed_atom (two binary.MultiplyOverflows a b) h k refl
    listed (two binary.Less a b) h k = listed_atom (two binary.Less a b) h k refl
    listed (two binary.InRange a b) h k = listed_atom (two binary.InRange a b) h k refl
    listed (two (binary.Low i) a b) h k = listed_atom (two (binary.Low i) a b) h k refl
    listed (two (binary.Tag s) a b) h k = listed_atom (two (binary.Tag s) a b) h k refl
    listed (two binary.Member a b) h k = listed_atom (two binary.Member a b) h k refl
    listed (two binary.Subset a b) h k = listed_atom (two binary.Subset a b) h k refl
    listed (two binary.Common a b) h k = listed_atom (two binary.Common a b) h k refl
    listed (two binary.DifferencePick a b) h k = listed_atom (two binary.DifferencePick a b) h k refl
    listed (two binary.CommonPick a b) h k = listed_atom (two binary.CommonPick a b) h k refl
    listed (choice c a b) h k = listed_atom (choice c a b) h k refl
    listed (many manys.Record ts) h k = listed_atom (many manys.Record ts) h k refl
    listed (many (manys.Set s) ts) h k = listed_atom (many (manys.Set s) ts) h k refl

    module _ (w : World) (valued : (t : Tree) → Contains (closed_terms p) t → is_bool t ≡ true → val t w ≡ yes (is_true t w)) where
      true_atom : (t : Tree) → Contains (closed_terms p) t → is_bool t ≡ true → is_opposite t ≡ false → holds (truths p w) (positive (atom_number p t)) ≡ is_true t w
      true_atom t h k o = holds_positive (truths p w) (atom_number p t) ∙ ap (λ (x : Option Tree). is_true_at x w) (atom_back t h (atom_is t k o))

      not_is : (a : Tree) → Contains (closed_terms p) a → is_bool a ≡ true → is_true (one unary.Not a) w ≡ not (is_true a w)
      unfolding val
      not_is a h k = not_truth (val a w) (is_true a w) (valued a h k)

      pub true_literal : (t : Tree) → Contains (closed_terms p) t → is_bool t ≡ true → holds (truths p w) (literal_in p t) ≡ is_true t w
      unfolding literal
      true_literal (leaf (leafs.Literal (literals.Bool true))) h k = true_atom (leaf (leafs.Literal (literals.Bool true))) h k refl
      true_literal (leaf (leafs.Literal (literals.Bool false))) h k = holds_negation (truths p w) (positive 1) ∙ ap not (holds_positive (truths p w) 1 ∙ ap (λ (x : Option Tree). is_true_at x w) first_atom ∙ true_truth true w) ∙ sym (true_truth false w)
      true_literal (leaf (leafs.Literal (literals.Long n))) h k = true_atom (leaf (leafs.Literal (literals.Long n))) h k refl
      true_literal (leaf (leafs.Literal (literals.String n))) h k = true_atom (leaf (leafs.Literal (literals.String n))) h k refl
      true_literal (leaf (leafs.Literal (literals.Decimal n))) h k = true_atom (leaf (leafs.Literal (literals.Decimal n))) h k refl
      true_literal (leaf (leafs.Literal (literals.Ip n))) h k = true_atom (leaf (leafs.Literal (literals.Ip n))) h k refl
      true_literal (leaf (leafs.Literal (literals.Entity u us))) h k = true_atom (leaf (leafs.Literal (literals.Entity u us))) h k refl
      true_literal (leaf (leafs.None s)) h k = true_atom (leaf (leafs.None s)) h k refl
      true_literal (leaf (leafs.Principal s)) h k = true_atom (leaf (leafs.Principal s)) h k refl
      true_literal (leaf (leafs.Resource s)) h k = true_atom (leaf (leafs.Resource s)) h k refl
      true_literal (leaf (leafs.Context s)) h k = true_atom (leaf (leafs.Context s)) h k refl
      true_literal (one unary.Not a) h k = let n = negated a h in holds_negation (truths p w) (literal_in p a) ∙ ap not (true_literal a n.0 n.1) ∙ sym (not_is a n.0 n.1)
      true_literal (one (unary.Bit i) a) h k = true_atom (one (unary.Bit i) a) h k refl
      true_literal (one (unary.CarryIn i) a) h k = true_atom (one (unary.CarryIn i) a) h k refl
      true_literal (one (unary.ProductRow i j) a) h k = true_atom (one (unary.ProductRow i j) a) h k refl
      true_literal (one (unary.ProductCarry i j) a) h k = true_atom (one (unary.ProductCarry i j) a) h k refl
      true_literal (one (unary.Attributes s) a) h k = true_atom (one (unary.Attributes s) a) h k refl
      true_literal (one (unary.Ancestors s) a) h k = true_atom (one (unary.Ancestors s) a) h k refl
      true_literal (one unary.Keys a) h k = true_atom (one unary.Keys a) h k refl
      true_literal (one (unary.Field name) a) h k = true_atom (one (unary.Field name) a) h k refl
      true_literal (one unary.Present a) h k = true_atom (one unary.Present a) h k refl
      true_literal (one unary.Held a) h k = true_atom (one unary.Held a) h k refl
      true_literal (one (unary.Like p) a) h k = true_atom (one (unary.Like p) a) h k refl
      true_literal (two binary.And a b) h k = true_atom (two binary.And a b) h k refl
      true_literal (two binary.Or a b) h k = true_atom (two binary.Or a b) h k refl
      true_literal (two binary.Equal a b) h k = true_atom (two binary.Equal a b) h k refl
      true_literal (two binary.Add a b) h k = true_atom (two binary.Add a b) h k refl
      true_literal (two binary.Subtract a b) h k = true_atom (two binary.Subtract a b) h k refl
      true_literal (two binary.Multiply a b) h k = true_atom (two binary.Multiply a b) h k refl
      true_literal (two binary.AddOverflows a b) h k = true_atom (two binary.AddOverflows a b) h k refl
      true_literal (two binary.SubtractOverflows a b) h k = true_atom (two binary.SubtractOverflows a b) h k refl
      true_literal (two binary.MultiplyOverflows a b) h k = true_atom (two binary.MultiplyOverflows a b) h k refl
      true_literal (two binary.Less a b) h k = true_atom (two binary.Less a b) h k refl
      true_literal (two binary.InRange a b) h k = true_atom (two binary.InRange a b) h k refl
      true_literal (two (binary.Low i) a b) h k = true_atom (two (binary.Low i) a b) h k refl
      true_literal (two (binary.Tag s) a b) h k = true_atom (two (binary.Tag s) a b) h k refl
      true_literal (two binary.Member a b) h k = true_atom (two binary.Member a b) h k refl
      true_literal (two binary.Subset a b) h k = true_atom (two binary.Subset a b) h k refl
      true_literal (two binary.Common a b) h k = true_atom (two binary.Common a b) h k refl
      true_literal (two binary.DifferencePick a b) h k = true_atom (two binary.DifferencePick a b) h k refl
      true_literal (two binary.CommonPick a b) h k = true_atom (two binary.CommonPick a b) h k refl
      true_literal (choice c a b) h k = true_atom (choice c a b) h k refl
      true_literal (many manys.Record ts) h k = true_atom (many manys.Record ts) h k refl
      true_literal (many (manys.Set s) ts) h k = true_atom (many (manys.Set s) ts) h k refl
