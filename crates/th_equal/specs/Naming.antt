-- The strings and entities among the closed terms, and that no instance of EQ1 on them is falsified.
use Rattle.std.specs.Prelude.{◌≡◌, ◌≤◌, ℕ, length, true, false, List, Some}
use Rattle.std.specs.List.{AllByRecursion}
use Rattle.sc_lists.specs.Members.{Has}
use Rattle.sc_clauses.specs.Assignments.{Assignment}
use Rattle.sc_terms.specs.Trees.{Tree}
use Rattle.sc_footprint.specs.Problems.{Posed, term_of}
use Rattle.sc_rule_instances.specs.declared.rule.EqualRule.TheVariants.{Eq1}
use Rattle.sc_rule_instances.specs.Instances.{equal_said}
use Rattle.sc_rule_instances.specs.Known.{is_falsified}
use Rattle.sc_rule_laws.specs.Terms.{is_named}

-- the closed term of a number is a string or an entity
pub record IsNamed (p : Posed) (n : ℕ) : Type 0 where
  pub term : Tree
  pub is : term_of p n ≡ Some term
  pub named : is_named term ≡ true

-- these are all of them, up to a number
pub record AreNamedUpTo (p : Posed) (count : ℕ) (numbers : List ℕ) : Type 0 where
  pub few : length numbers ≤ count
  pub each : AllByRecursion (IsNamed p) numbers
  pub all : (n : ℕ) (t : Tree) → n ≤ count → term_of p n ≡ Some t → is_named t ≡ true → Has numbers n

pub record AreNamed (p : Posed) (numbers : List ℕ) : Type 0 where
  pub each : AllByRecursion (IsNamed p) numbers
  pub all : (n : ℕ) (t : Tree) → term_of p n ≡ Some t → is_named t ≡ true → Has numbers n

-- no instance of EQ1 is falsified
abbrev pub IsChainFree : Posed → Assignment → Type 0
IsChainFree p m = (a b c : ℕ) → is_falsified p m (equal_said p (Eq1 a b c)) ≡ false
