-- The values of terms that are truth values in a world.
use Rattle.std.proofs.Common.{◌≡◌, Bool, true, false, not, ◌&&◌, ◌||◌, List, length, All, Option, sym, ap, ◌∙◌}
use Rattle.std.specs.List.{list_any}
use Rattle.sc_terms.proofs.FoldValues.{seen_yes, not_yes, truth_yes, truth_is}
use Rattle.sc_world.specs.declared.world.World.{World}
use Rattle.sc_sorts.specs.declared.node.UnaryOp.TheVariants.{Not}
use Rattle.sc_sorts.specs.declared.node.BinaryOp.TheVariants.{And, Or, Equal}
use Rattle.sc_terms.specs.Trees.{Tree, one, two}
use Rattle.sc_terms.specs.Folds.{truth_term, not_term, and_term, or_term, equal_term}
use Rattle.sc_terms.specs.Joined.{any_of}
use Rattle.sc_terms.specs.Values.{Val, val, yes, seen, truth, not_value, and_value, and_seen, or_value, equal_value, equal_seen}
use Rattle.sc_terms.proofs.JoinedKeeps.{joined_keeps}
use Rattle.sc_term_laws.proofs.ConnectiveLaws.{both_yes, either_yes}

-- whether two truth values are one
abbrev pub same : Bool → Bool → Bool
same true b = b
same false b = not b

-- ---- connectives of truth values

pub and_no : (x : Val) → and_value (yes false) x ≡ yes false
unfolding and_value
and_no x = ap (λ (o : Option Bool). and_seen o (seen x) (yes false) x) (seen_yes false)

pub and_yes : (x : Val) → and_value (yes true) x ≡ x
unfolding and_value
and_yes x = ap (λ (o : Option Bool). and_seen o (seen x) (yes true) x) (seen_yes true)

equal_yes : (a b : Bool) → equal_value (yes a) (yes b) ≡ yes (same a b)
unfolding equal_value
equal_yes true b = ap (λ (o : Option Bool). equal_seen o (seen (yes b)) (yes true) (yes b)) (seen_yes true)
equal_yes false b = ap (λ (o : Option Bool). equal_seen o (seen (yes b)) (yes false) (yes b)) (seen_yes false) ∙ not_yes b

-- ---- terms

-- a term that is a truth value in a world
abbrev pub IsYes : World → Tree → Type 0
IsYes w t = (b : Bool) × (val t w ≡ yes b)

-- what is known of folded terms
abbrev pub Negation : Type 0
Negation = (a : Tree) (w : World) → val (not_term a) w ≡ val (one Not a) w

abbrev pub Both : Type 0
Both = (a b : Tree) (w : World) → val (and_term a b) w ≡ val (two And a b) w

abbrev pub Either : Type 0
Either = (a b : Tree) (w : World) → val (or_term a b) w ≡ val (two Or a b) w

abbrev pub Equation : Type 0
Equation = (a b : Tree) (w : World) → val (equal_term a b) w ≡ val (two Equal a b) w

abbrev pub AnyTrue : Type 0
AnyTrue = (ts : List Tree) (w : World) → truth (val (any_of ts) w) ≡ list_any (λ t. truth (val t w)) ts

pub not_is : Negation → (a : Tree) (w : World) (p : Bool) → val a w ≡ yes p → val (not_term a) w ≡ yes (not p)
unfolding val
not_is negation a w p h = negation a w ∙ ap not_value h ∙ not_yes p

pub both_are : Both → (a b : Tree) (w : World) → val (and_term a b) w ≡ and_value (val a w) (val b w)
unfolding val
both_are both a b w = both a b w

pub and_is : Both → (a b : Tree) (w : World) (p q : Bool) → val a w ≡ yes p → val b w ≡ yes q → val (and_term a b) w ≡ yes (p && q)
and_is both a b w p q h k = both_are both a b w ∙ ap (λ x. and_value x (val b w)) h ∙ ap (and_value (yes p)) k ∙ both_yes p q

or_is : Either → (a b : Tree) (w : World) (p q : Bool) → val a w ≡ yes p → val b w ≡ yes q → val (or_term a b) w ≡ yes (p || q)
unfolding val
or_is either a b w p q h k = either a b w ∙ ap (λ x. or_value x (val b w)) h ∙ ap (or_value (yes p)) k ∙ either_yes p q

pub equal_is : Equation → (a b : Tree) (w : World) (p q : Bool) → val a w ≡ yes p → val b w ≡ yes q → val (equal_term a b) w ≡ yes (same p q)
unfolding val
equal_is equation a b w p q h k = equation a b w ∙ ap (λ x. equal_value x (val b w)) h ∙ ap (equal_value (yes p)) k ∙ equal_yes p q

pub yes_truth : (w : World) (t : Tree) → IsYes w t → val t w ≡ yes (truth (val t w))
yes_truth w t h = h.1 ∙ ap yes (sym (ap truth h.1 ∙ truth_yes h.0))

pub any_is : Either → AnyTrue → (ts : List Tree) (w : World) → All (IsYes w) ts → val (any_of ts) w ≡ yes (list_any (λ t. truth (val t w)) ts)
any_is either any ts w h =
    yes_truth w (any_of ts)
    (joined_keeps (IsYes w) or_term (truth_term false) (false, truth_is false w) (λ a b x y. (x.0 || y.0, or_is either a b w x.0 y.0 x.1 y.1)) (length ts) ts h)
    ∙ ap yes (any ts w)
