-- Instances of SE2 to SE10 that closed terms name, and that none of them is falsified. Those of SE2 and SE3 are named
-- by a membership, of SE5, SE8 and SE9 by an inclusion, of SE6 and SE10 by a common member, of SE4 by a membership
-- and an inclusion, of SE7 by a membership and a common member.
use Rattle.std.specs.Prelude.{◌≡◌, ◌<◌, ⊤, ℕ, false, List, [], ◌∷◌, length, Option, Some}
use Rattle.std.specs.List.{AllByRecursion}
use Rattle.sc_clauses.specs.Assignments.{Assignment}
use Rattle.sc_sorts.specs.declared.node.ManyOp.TheVariants as manys
use Rattle.sc_terms.specs.Trees.{Tree, many}
use Rattle.sc_rule_laws.specs.Terms.{members}
use Rattle.sc_footprint.specs.Problems.{Posed}
use Rattle.sc_rule_instances.specs.declared.rule.SetRule.{SetRule}
use Rattle.sc_rule_instances.specs.declared.rule.SetRule.TheVariants.{Se2, Se3, Se4, Se5, Se6, Se7, Se8, Se9, Se10}
use Rattle.sc_rule_instances.specs.Instances.{set_said}
use Rattle.sc_rule_instances.specs.Known.{is_falsified}
use Rattle.th_sets.specs.declared.named.Named.{Named}
use Rattle.th_sets.specs.declared.named.Named.TheVariants.{Member, Subset, Common, Other}
use Rattle.th_sets.specs.Named.{named_at}

abbrev pub IsFree : Posed → Assignment → SetRule → Type 0
IsFree p m rule = is_falsified p m (set_said p rule) ≡ false

-- a rule at the first so many of those that stand in a set term
unfoldable pub AreFirstFree : Posed → Assignment → (ℕ → SetRule) → ℕ → Type 0
AreFirstFree p m rule count = (i : ℕ) → i < count → IsFree p m (rule i)

-- ---- by an inclusion, and by a common member

abbrev pub by_subset : ℕ → ℕ → List SetRule
by_subset s t = Se5 s t 0 ∷ Se5 s t 1 ∷ Se8 s t 0 ∷ Se8 t s 1 ∷ Se8 s t 2 ∷ []

abbrev pub by_common : ℕ → ℕ → List SetRule
by_common s t = Se6 s t 0 ∷ Se6 s t 1 ∷ []

pub record IsSubsetFree (p : Posed) (m : Assignment) (s t : ℕ) : Type 0 where
  pub rows : AllByRecursion (IsFree p m) (by_subset s t)
  pub se9 : (i : ℕ) → IsFree p m (Se9 s t i)

pub record IsCommonFree (p : Posed) (m : Assignment) (s t : ℕ) : Type 0 where
  pub rows : AllByRecursion (IsFree p m) (by_common s t)
  pub se10 : (i : ℕ) → IsFree p m (Se10 s t i)

-- how many members a set term has
abbrev pub member_count : Option Tree → ℕ
member_count (Some (many (manys.Set k) ts)) = length (members ts)
member_count _ = 0

-- how many tell whether two sets have a member in common: those of the first, or else of the second
abbrev pub teller_count : Option Tree → Option Tree → ℕ
teller_count (Some (many (manys.Set k) ts)) q = length (members ts)
teller_count _ q = member_count q

-- ---- by a membership

-- SE4 or SE7, with what another closed term names
abbrev pub IsBesideFree : Posed → Assignment → ℕ → ℕ → Named → Type 0
IsBesideFree p m x set (Subset s t) = s ≡ set → IsFree p m (Se4 s t x)
IsBesideFree p m x set (Common s t) = s ≡ set → IsFree p m (Se7 s t x)
IsBesideFree p m x set _ = ⊤

pub record IsMemberFree (p : Posed) (m : Assignment) (x set : ℕ) : Type 0 where
  pub se2 : IsFree p m (Se2 x set)
  pub se3 : (i : ℕ) → IsFree p m (Se3 x set i)
  pub beside : (n : ℕ) → IsBesideFree p m x set (named_at p n)

-- ---- by whatever a closed term names

abbrev pub IsNamedFree : Posed → Assignment → Named → Type 0
IsNamedFree p m (Member x s) = IsMemberFree p m x s
IsNamedFree p m (Subset s t) = IsSubsetFree p m s t
IsNamedFree p m (Common s t) = IsCommonFree p m s t
IsNamedFree p m Other = ⊤

abbrev pub AreNamedFree : Posed → Assignment → Type 0
AreNamedFree p m = (n : ℕ) → IsNamedFree p m (named_at p n)
