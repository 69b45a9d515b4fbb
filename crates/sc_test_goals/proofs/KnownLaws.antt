-- Terms over known nodes are known, and such as are terms of truth values are goals.
use Rattle.std.proofs.Common.{◌≡◌, ◌<◌, ◌≤◌, ◌+◌, ◌++◌, ℕ, true, false, List, [], ◌∷◌, length, Contains, refl, sym, subst, arith, inr, ⊎_elim}
use Rattle.std.proofs.lemmas.Bool.{cases_lt}
use Rattle.std.specs.List.{AllByRecursion}
use Rattle.sc_lists.proofs.ListLaws.{all_append, all_element}
use Rattle.sc_names.specs.declared.uid.Uid.{Uid}
use Rattle.sc_schema.specs.declared.declarations.Env.{Env}
use Rattle.sc_schema.specs.Declarations.{Declarations, environments}
use Rattle.sc_world.specs.Named.{IsDeclared}
use Rattle.sc_sorts.specs.declared.node.BinaryOp.{BinaryOp}
use Rattle.sc_sorts.specs.declared.node.BinaryOp.TheVariants as binary
use Rattle.sc_sorts.specs.declared.node.Leaf.TheVariants as leafs
use Rattle.sc_sorts.specs.declared.node.Literal.TheVariants as literal
use Rattle.sc_sorts.specs.declared.node.Node.{Node}
use Rattle.sc_sorts.specs.declared.node.Node.TheVariants as node
use Rattle.sc_terms.specs.TreeSorts.{tree_sort}
use Rattle.sc_terms.specs.Tables.{tree, node_tree, node_parts, Places, AreBelow, PartsAreBelow}
use Rattle.sc_term_laws.specs.Judging.{IsTermOf}
use Rattle.sc_term_laws.proofs.ChoicesLaws.{action_told}
use Rattle.sc_closure_rules.specs.Goals.{is_pick, has_pick, some_pick, uids_of, all_uids, IsGoal}
use Rattle.sc_closure.specs.Atoms.{is_bool}
use Rattle.sc_test_goals.proofs.GoalLaws.{boolean_term}
use Rattle.sc_test_goals.specs.Known.{is_action, is_known_node, IsKnown, AreKnown}

module _ (d : Declarations) where
  abbrev AreActions : List Uid → Type 0
  AreActions us = AllByRecursion (λ (u : Uid). is_action d u ≡ true) us

  both_actions : (us vs : List Uid) → AreActions us → AreActions vs → AreActions (us ++ vs)
  both_actions us vs h k = all_append (λ (u : Uid). is_action d u ≡ true) us vs h k

  -- ---- the terms of a table, one more at a time

  no_pick : (o : BinaryOp) (a b : ℕ) → is_known_node d (node.Two o a b) ≡ true → is_pick o ≡ false
  no_pick binary.DifferencePick a b h = absurd cc
  no_pick binary.CommonPick a b h = absurd cc
  no_pick _ a b h = refl

  module _ (xs : List Node) where
    parts_known : (ps : Places) (n : ℕ) → AreBelow n ps → AreKnown d xs n → (some_pick (node_parts xs ps) ≡ false) × AreActions (all_uids (node_parts xs ps))
    unfolding AreKnown has_pick uids_of
    parts_known [] n below each = (refl, tt)
    parts_known (p ∷ ps) n below each =
        let x = each p.1 below.0 in
        let rest = parts_known ps n below.1 each in
        (rw (x.picks_none, rest.0) refl, both_actions (uids_of (tree xs p.1)) (all_uids (node_parts xs ps)) x.actions rest.1)

    node_known : (x : Node) (n : ℕ) → is_known_node d x ≡ true → PartsAreBelow n x → AreKnown d xs n → IsKnown d (node_tree xs x)
    unfolding AreKnown has_pick uids_of
    node_known (node.Leaf (leafs.Literal (literal.Entity u us))) n h below each = record { picks_none = refl; actions = (h, tt) }
    node_known (node.Leaf l) n h below each = record { picks_none = refl; actions = tt }
    node_known (node.One o a) n h below each = let x = each a below in record { picks_none = x.picks_none; actions = x.actions }
    node_known (node.Two o a b) n h below each =
        let x = each a below.0 in
        let y = each b below.1 in
        record { picks_none = rw (no_pick o a b h, x.picks_none, y.picks_none) refl; actions = both_actions (uids_of (tree xs a)) (uids_of (tree xs b)) x.actions y.actions }
    node_known (node.Choice c a b) n h below each =
        let x = each c below.0 in
        let y = each a below.1 in
        let z = each b below.2 in
        record {
          picks_none = rw (x.picks_none, y.picks_none, z.picks_none) refl;
          actions = both_actions (uids_of (tree xs c)) (uids_of (tree xs a) ++ uids_of (tree xs b)) x.actions (both_actions (uids_of (tree xs a)) (uids_of (tree xs b)) y.actions z.actions);
        }
    node_known (node.Many o ps) n h below each = let k = parts_known ps n below each in record { picks_none = k.0; actions = k.1 }

    pub none_known : AreKnown d xs 0
    unfolding AreKnown
    none_known n less = absurd (omega (arith, less))

    pub more_known : (n : ℕ) (x : Node) → tree xs n ≡ node_tree xs x → is_known_node d x ≡ true → PartsAreBelow n x → AreKnown d xs n → AreKnown d xs (n + 1)
    unfolding AreKnown
    more_known n x is h below before k less =
        ⊎_elim (before k) (λ (past : n ≤ k). let same : n ≡ k = omega (arith, past, less) in subst (λ (i : ℕ). IsKnown d (tree xs i)) same (subst (IsKnown d) (sym is) (node_known x n h below before))) (cases_lt k n)

    pub all_known : (count : ℕ) → length xs ≤ count → AreKnown d xs count → AreKnown d xs (length xs)
    unfolding AreKnown
    all_known count far h n less = h n (omega (arith, far, less))

    known_at : (n : ℕ) → n < length xs → AreKnown d xs (length xs) → IsKnown d (tree xs n)
    unfolding AreKnown
    known_at n within h = h n within

-- ---- goals

pub known_goal : (d : Declarations) (env : Env) (ls : List Uid) (xs : List Node) (n : ℕ) → Contains (environments d) env → ls ≡ [] → n < length xs → AreKnown d xs (length xs) → is_bool (tree xs n) ≡ true
    → IsTermOf d env ls (tree_sort (tree xs n)) (tree xs n) → IsGoal d env ls (tree xs n)
known_goal d env ls xs n among none within known truth term =
    let t = known_at d xs n within known in
    record {
      environment = among;
      term = boolean_term d env ls (tree xs n) truth term;
      plain = t.picks_none;
      written = λ u k. inr ((action_told d u (is_action d u) refl).0 (all_element (λ (v : Uid). is_action d v ≡ true) (uids_of (tree xs n)) u t.actions k));
      declared = subst (AllByRecursion (IsDeclared d)) (sym none) tt;
    }
