-- Instances that closed terms name, and that none of them is falsified. Those of EQ2 and EQ8 are named by the term
-- that they speak of, those of EQ3 to EQ7 by the equation of their two terms, which is closed where one of them is
-- falsified.
use Rattle.std.specs.Prelude.{◌≡◌, ◌+◌, ◌<◌, ℕ, false, Option, Some}
use Rattle.sc_clauses.specs.Assignments.{Assignment}
use Rattle.sc_sorts.specs.declared.node.BinaryOp.TheVariants.{Equal}
use Rattle.sc_terms.specs.Trees.{Tree, two}
use Rattle.sc_footprint.specs.Problems.{Posed, term_of}
use Rattle.sc_rule_laws.specs.Equal.{eq2, eq3, eq4, eq5, eq6, eq7, eq8}
use Rattle.sc_rule_laws.specs.Signed.{Said}
use Rattle.sc_rule_instances.specs.declared.rule.EqualRule.{EqualRule}
use Rattle.sc_rule_instances.specs.declared.rule.EqualRule.TheVariants.{Eq3}
use Rattle.sc_rule_instances.specs.Instances.{on_one, on_two, equal_said}
use Rattle.sc_rule_instances.specs.Known.{is_falsified}

-- what is said isn't falsified
abbrev pub IsKept : Posed → Assignment → Said → Type 0
IsKept p m said = is_falsified p m said ≡ false

abbrev pub IsFree : Posed → Assignment → EqualRule → Type 0
IsFree p m rule = IsKept p m (equal_said p rule)

-- ---- of two closed terms

-- EQ3 at the first so many fields of two records
unfoldable pub AreFieldsFree : Posed → Assignment → ℕ → ℕ → ℕ → Type 0
AreFieldsFree p m r s count = (i : ℕ) → i < count → IsFree p m (Eq3 r s i)

-- EQ3 and EQ4
pub record AreRecordsFree (p : Posed) (m : Assignment) (r s : Option Tree) : Type 0 where
  pub eq3_free : (i : ℕ) → IsKept p m (on_two r s (λ t u. eq3 t u i))
  pub eq4_free : IsKept p m (on_two r s eq4)

-- EQ5 to EQ7
pub record AreOptionsFree (p : Posed) (m : Assignment) (o q : Option Tree) : Type 0 where
  pub eq5_free : IsKept p m (on_two o q eq5)
  pub eq6_free : IsKept p m (on_two o q eq6)
  pub eq7_free : (side : ℕ) → IsKept p m (on_two o q (λ t u. eq7 t u side))

pub record IsPairFree (p : Posed) (m : Assignment) (a b : Option Tree) : Type 0 where
  pub records : AreRecordsFree p m a b
  pub options : AreOptionsFree p m a b

-- of two that are closed, whichever comes first
abbrev pub AreSidesFree : Posed → Assignment → Tree → Tree → Type 0
AreSidesFree p m a b =
    (r s : ℕ) → term_of p r ≡ Some a → term_of p s ≡ Some b
    → IsPairFree p m (Some a) (Some b) × IsPairFree p m (Some b) (Some a)

-- ---- of one closed term

-- EQ2
abbrev pub IsChoiceFree : Posed → Assignment → Option Tree → Type 0
IsChoiceFree p m o = (side : ℕ) → IsKept p m (on_one o (λ t. eq2 t side))

-- of the sides of an equation
abbrev pub IsEquationFree : Posed → Assignment → Tree → Type 0
IsEquationFree p m t = (a b : Tree) → t ≡ two Equal a b → AreSidesFree p m a b

pub record IsTermFree (p : Posed) (m : Assignment) (o : Option Tree) : Type 0 where
  pub eq2_free : IsChoiceFree p m o
  pub eq8_free : IsKept p m (on_one o eq8)
  pub equation : (t : Tree) → o ≡ Some t → IsEquationFree p m t

-- of all closed terms
abbrev pub AreTermsFree : Posed → Assignment → Type 0
AreTermsFree p m = (n : ℕ) → IsTermFree p m (term_of p n)

-- of the first so many, by their numbers from 1 on
unfoldable pub AreFirstFree : Posed → Assignment → ℕ → Type 0
AreFirstFree p m count = (n : ℕ) → n < count → IsTermFree p m (term_of p (n + 1))
