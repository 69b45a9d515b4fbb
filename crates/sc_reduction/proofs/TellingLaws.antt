-- How policies that are marked stand in a world.
use Rattle.std.proofs.Common.{◌≡◌, ◌+◌, ◌<◌, ◌≤◌, ◌&&◌, ◌||◌, not, ℕ, Bool, true, false, List, length, get_or, map, refl, sym, ap, ap₂, ◌∙◌}
use Rattle.std.specs.List.{list_any}
use Rattle.std.proofs.Math.Bool.{beq}
use Rattle.std.proofs.lemmas.List.{get_or-map, length-map}
use Rattle.sc_ast.specs.declared.policy.Effect.{Effect}
use Rattle.sc_ast.specs.declared.policy.Effect.TheVariants.{Permit, Forbid}
use Rattle.sc_ast.specs.declared.policy.Policy.{Policy}
use Rattle.sc_auth.specs.Decisions.{permits}
use Rattle.sc_auth.specs.Standings.{is_satisfied, standing_of}
use Rattle.sc_auth.specs.declared.standing.Standing.{Standing}
use Rattle.sc_auth.proofs.PlacesLaws.{is_satisfied-standing_of}
use Rattle.sc_goal.proofs.CompilingLaws.{marked_from, marked_next, marked_past, marked_end}
use Rattle.sc_goal.specs.Selections.{selected}
use Rattle.sc_goal.specs.Properties.{same}
use Rattle.sc_world.specs.declared.world.World.{World}
use Rattle.sc_reduction.specs.Telling.{satisfied_with}

-- ---- one policy

pub permit_stands : (b c : Bool) (w : World) (p : Policy) (s : Standing) → b ≡ permits p.effect → c ≡ is_satisfied s → s ≡ standing_of w p → (b && c) ≡ satisfied_with Permit w p
permit_stands b c w p s e f is = ap₂ (λ x y. x && y) e (f ∙ ap is_satisfied is ∙ is_satisfied-standing_of w p)

pub forbid_stands : (b c : Bool) (w : World) (p : Policy) (s : Standing) → b ≡ permits p.effect → c ≡ is_satisfied s → s ≡ standing_of w p → (not b && c) ≡ satisfied_with Forbid w p
forbid_stands b c w p s e f is = ap₂ (λ x y. not x && y) e (f ∙ ap is_satisfied is ∙ is_satisfied-standing_of w p)

-- two decisions are told apart
pub differ_is : (a b p q : Bool) → a ≡ p → b ≡ q → not (beq a b) ≡ not (same p q)
differ_is a b p q e f = ap₂ (λ x y. not (beq x y)) e f ∙ by p q
  where
    by : (p q : Bool) → not (beq p q) ≡ not (same p q)
    by true true = refl
    by true false = refl
    by false true = refl
    by false false = refl

-- as many stand as there are
pub as_many : (w : World) (ps read : List Policy) (standings : List Standing) → standings ≡ map (standing_of w) ps → ps ≡ read → length standings ≡ length read
as_many w ps read standings e is = ap length e ∙ length-map ps (standing_of w) ∙ ap length is

pub stands_at : (w : World) (ps : List Policy) (standings : List Standing) (i : ℕ) (p : Policy) (d : Standing) → i < length ps → p ≡ get_or ps i p → standings ≡ map (standing_of w) ps → get_or standings i d ≡ standing_of w p
stands_at w ps standings i p d within is e = ap (λ ss. get_or ss i d) e ∙ get_or-map (standing_of w) ps i p d within ∙ ap (standing_of w) (sym is)

-- ---- policies that are marked

-- some of those from place i on passes the test
abbrev pub AnyFrom : (Policy → Bool) → ℕ → List Bool → List Policy → Bool
AnyFrom test i marks ps = list_any test (marked_from i marks ps)

-- the policy at a place is marked
pub any_here : (test : Policy → Bool) (marks : List Bool) (ps : List Policy) (i : ℕ) (d : Bool) (p : Policy) (b : Bool) → i < length marks → i < length ps → get_or marks i d ≡ true → p ≡ get_or ps i p
    → test p ≡ b → AnyFrom test i marks ps ≡ b || AnyFrom test (i + 1) marks ps
any_here test marks ps i d p b in_marks in_all mark element passes =
    ap (list_any test) (marked_next marks ps i d p in_marks in_all mark element) ∙ ap (λ c. c || AnyFrom test (i + 1) marks ps) passes

-- or isn't
pub any_later : (test : Policy → Bool) (marks : List Bool) (ps : List Policy) (i : ℕ) (d : Bool) → i < length marks → i < length ps → get_or marks i d ≡ false → AnyFrom test i marks ps ≡ AnyFrom test (i + 1) marks ps
any_later test marks ps i d in_marks in_all mark = ap (list_any test) (marked_past marks ps i d in_marks in_all mark)

pub any_none : (test : Policy → Bool) (marks : List Bool) (ps : List Policy) (i : ℕ) → length marks ≤ i → AnyFrom test i marks ps ≡ false
any_none test marks ps i h = ap (list_any test) (marked_end marks ps i h)
