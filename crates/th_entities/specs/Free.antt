-- Instances that an assignment doesn't falsify, and what tells so of many.
use Rattle.std.specs.Prelude.{◌≡◌, ◌&&◌, ◌==◌, ◌+◌, ◌<◌, ℕ, Bool, true, false, List, ◌∷◌, Option, Some}
use Rattle.std.specs.List.{AllByRecursion, list_any}
use Rattle.sc_clauses.specs.declared.lit.Lit.{Lit}
use Rattle.sc_clauses.specs.Assignments.{Assignment, is_false}
use Rattle.sc_sorts.specs.declared.node.UnaryOp.TheVariants as unary
use Rattle.sc_terms.specs.Trees.{Tree, one}
use Rattle.sc_footprint.specs.Problems.{Posed}
use Rattle.sc_rule_instances.specs.declared.rule.EntityRule.{EntityRule}
use Rattle.sc_rule_instances.specs.declared.rule.EntityRule.TheVariants.{En2, En4, En5, En8, Eq9}
use Rattle.sc_rule_instances.specs.Clauses.{is_asked, literal_for}
use Rattle.sc_rule_instances.specs.Instances.{entity_said}
use Rattle.sc_rule_instances.specs.Known.{is_falsified}
use Rattle.sc_rule_laws.specs.Signed.{Said}
use Rattle.th_entities.specs.declared.memberships.Membership.{Membership}

abbrev pub IsFree : Posed → Assignment → EntityRule → Type 0
IsFree p m rule = is_falsified p m (entity_said p rule) ≡ false

-- EN8 and EQ9
abbrev pub IsChosenFree : Posed → Assignment → ℕ → Type 0
IsChosenFree p m x = IsFree p m (En8 x) × IsFree p m (Eq9 x)

-- it holds of the first so many numbers, from 1 on
unfoldable pub AreFirst : (ℕ → Type 0) → ℕ → Type 0
AreFirst P count = (n : ℕ) → n < count → P (n + 1)

-- ---- by the memberships that are said to be true

-- EN2 for two sets, of a member of the first
abbrev pub IsMovedFree : Posed → Assignment → ℕ → ℕ → Membership → Type 0
IsMovedFree p m s z k = k.set ≡ s → IsFree p m (En2 k.member s z)

-- EN4 for the member, where that is the entity
abbrev pub IsOwnFree : Posed → Assignment → Membership → Type 0
IsOwnFree p m k = k.member ≡ k.owner → IsFree p m (En4 k.member)

-- one of these is of a member
abbrev pub has_member : List Membership → ℕ → Bool
has_member known x = list_any (λ (k : Membership). k.member == x) known

-- EN5 for two entities and a membership in the ancestors of the second
abbrev pub IsLifted : Posed → Assignment → ℕ → ℕ → Membership → Type 0
IsLifted p m e f up = IsFree p m (En5 e f up.member up.set)

-- the same for each of these, where f is a member of e's ancestors
abbrev pub AreLifted : Posed → Assignment → ℕ → ℕ → List Membership → List Membership → Type 0
AreLifted p m e f lows ups = has_member lows f ≡ true → AllByRecursion (IsLifted p m e f) ups

-- the same for one membership, whatever the second entity is
abbrev pub IsUnder : Posed → Assignment → ℕ → List Membership → Membership → Type 0
IsUnder p m e lows up = has_member lows up.owner ≡ true → IsLifted p m e up.owner up

-- the same for one membership in the ancestors of the first entity, and each in those of the member
abbrev pub IsThroughFree : Posed → Assignment → List Membership → Membership → Type 0
IsThroughFree p m known low =
    AllByRecursion (λ (up : Membership). up.owner ≡ low.member → IsLifted p m low.owner low.member up) known

-- ---- tests that are taken before many instances are looked at

-- a literal is asked and false
abbrev pub is_out : Assignment → Lit → Bool
is_out m l = is_asked l && is_false m l

-- the first literal is
abbrev pub is_head_out : Posed → Assignment → Said → Bool
is_head_out p m (Some (s ∷ parts)) = is_out m (literal_for p s)
is_head_out p m _ = false

-- a set that is stored of an entity: its ancestors of one type, or its keys
abbrev pub is_stored : Option Tree → Bool
is_stored (Some (one (unary.Ancestors k) e)) = true
is_stored (Some (one unary.Keys e)) = true
is_stored _ = false
