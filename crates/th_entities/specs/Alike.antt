-- What tells that no instance of EN1 or EN3 is falsified for some places. No public promise speaks of it.
use Rattle.std.specs.Prelude.{◌≡◌, ◌&&◌, ℕ, Bool, true, false, List, Option, Some, None}
use Rattle.std.specs.List.{AllByRecursion}
use Rattle.sc_clauses.specs.Assignments.{Assignment}
use Rattle.sc_sorts.specs.declared.sort.Sort.{Sort, Sort-F, out-Sort}
use Rattle.sc_sorts.specs.declared.sort.Sort.TheOpen as s
use Rattle.sc_sorts.specs.contracts.sort.SortPartialEq.TheImpl.{ghosts as sorts}
use Rattle.sc_sorts.specs.declared.node.UnaryOp.TheVariants as unary
use Rattle.sc_sorts.specs.declared.node.BinaryOp.TheVariants as binary
use Rattle.sc_terms.specs.Trees.{Tree, one, two}
use Rattle.sc_terms.specs.TreeSorts.{tree_sort}
use Rattle.sc_terms.specs.Folds.{bit_term, equal_term}
use Rattle.sc_footprint.specs.Problems.{Posed}
use Rattle.sc_rule_instances.specs.declared.rule.EntityRule.{EntityRule}
use Rattle.sc_rule_instances.specs.declared.rule.EntityRule.TheVariants.{En1, En3}
use Rattle.sc_rule_laws.specs.Places.{roots}
use Rattle.th_entities.specs.declared.memberships.Membership.{Membership}
use Rattle.th_entities.specs.declared.places.Place.{Place}
use Rattle.th_entities.specs.Free.{IsFree}
use Rattle.th_entities.specs.Memberships.{is_true}
use Rattle.th_entities.specs.Places.{is_root}

-- EN3 for places of tags, and EN1 for others
abbrev pub alike_rule : Bool → ℕ → ℕ → ℕ → EntityRule
alike_rule true x y i = En3 x y i
alike_rule false x y i = En1 x y i

-- ---- tests

-- two roots are of entities that are said to be equal, and under such keys
abbrev pub guard_out : Posed → Assignment → Tree → Tree → Bool
guard_out p m (one (unary.Attributes k) e) (one (unary.Attributes l) f) = sorts.eq k l && is_true p m (equal_term e f)
guard_out p m (two (binary.Tag s) e k) (two (binary.Tag t) f l) =
    sorts.eq s t && (is_true p m (equal_term e f) && is_true p m (equal_term k l))
guard_out p m _ _ = false

-- two terms are like places of attributes or of tags
abbrev pub are_like : Tree → Tree → Bool
are_like x y = is_root (roots x y).0 && is_root (roots x y).1

-- the half of a number may be broken: of two numbers the bit of the first one has to be one
abbrev pub may_break_by : Sort-F Sort → Posed → Assignment → Tree → ℕ → Bool
may_break_by s.Long p m x i = is_true p m (bit_term x i)
may_break_by s.Decimal p m x i = is_true p m (bit_term x i)
may_break_by s.Ip p m x i = is_true p m (bit_term x i)
may_break_by _ p m x i = true

abbrev pub may_break : Posed → Assignment → Tree → ℕ → Bool
may_break p m x i = may_break_by (out-Sort (tree_sort x)) p m x i

-- how many halves there are for terms of a sort, numbered from 0; of sets they have the numbers of candidates
abbrev pub half_level : Sort-F Sort → Option ℕ
half_level (s.Set k) = None
half_level (s.Record fields) = Some 0
half_level s.Long = Some 64
half_level s.Decimal = Some 64
half_level s.Ip = Some 257
half_level _ = Some 1

-- ---- instances that an assignment doesn't falsify

abbrev pub IsAlikeFree : Posed → Assignment → Bool → ℕ → ℕ → Type 0
IsAlikeFree p m tags x y = (i : ℕ) → IsFree p m (alike_rule tags x y i)

-- for two sets, of a member of the first
abbrev pub IsCandidateFree : Posed → Assignment → Bool → ℕ → ℕ → Membership → Type 0
IsCandidateFree p m tags x y k = k.set ≡ x → IsFree p m (alike_rule tags x y k.member)

-- of both rules
abbrev pub IsPairFree : Posed → Assignment → Place → Place → Type 0
IsPairFree p m a b = (tags : Bool) → IsAlikeFree p m tags a.number b.number

-- for any of these and another
abbrev pub IsFreeBeside : Posed → Assignment → List Place → Place → Type 0
IsFreeBeside p m run b = AllByRecursion (λ (a : Place). IsPairFree p m a b) run
