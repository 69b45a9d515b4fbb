-- A truth value is what its definition makes of its inputs: the connectives.
use Rattle.std.proofs.Common.{◌≡◌, Bool, true, false, not, ◌&&◌, ◌||◌, cond, refl, ap, ◌∙◌}
use Rattle.sc_bits.specs.Adders.{differ}
use Rattle.sc_world.specs.declared.world.World.{World}
use Rattle.sc_sorts.specs.declared.node.BinaryOp.TheVariants as binary
use Rattle.sc_terms.specs.Trees.{Tree, two, choice}
use Rattle.sc_terms.specs.Folds.{truth_term}
use Rattle.sc_terms.specs.Values.{Val, yes, val, truth, equal_value}
use Rattle.sc_terms.proofs.FoldValues.{truth_yes, truth_is, and_truth, or_truth}
use Rattle.sc_term_definitions.specs.Truths.{is_true}
use Rattle.sc_term_definitions.proofs.EquationLaws.{same_of}

chosen_by : (b : Bool) (x y : Val) → truth (cond b x y) ≡ cond b (truth x) (truth y)
chosen_by true x y = refl
chosen_by false x y = refl

module _ (w : World) where
  pub true_told : is_true (truth_term true) w ≡ true
  true_told = ap truth (truth_is true w) ∙ truth_yes true

  pub both_told : (a b : Tree) → is_true (two binary.And a b) w ≡ (is_true a w && is_true b w)
  unfolding val
  both_told a b = and_truth (val a w) (val b w)

  pub either_told : (a b : Tree) → is_true (two binary.Or a b) w ≡ (is_true a w || is_true b w)
  unfolding val
  either_told a b = or_truth (val a w) (val b w)

  pub chosen_told : (c a b : Tree) → is_true (choice c a b) w ≡ cond (is_true c w) (is_true a w) (is_true b w)
  unfolding val
  chosen_told c a b = chosen_by (truth (val c w)) (val a w) (val b w)

  -- of two truth values, which are so in the world
  pub same_told : (a b : Tree) → val a w ≡ yes (is_true a w) → val b w ≡ yes (is_true b w) → is_true (two binary.Equal a b) w ≡ not (differ (is_true a w) (is_true b w))
  unfolding val
  same_told a b e f = ap truth (λ i. equal_value (e i) (f i)) ∙ same_of (is_true a w) (is_true b w)
