-- An assignment that falsifies no clause of a problem and no instance of its rules gives its closed terms truths that
-- are consistent.
use Rattle.std.specs.Prelude.{◌≡◌, ◌≤◌, ℕ, true, false, List, Some, length, IsSome}
use Rattle.std.specs.List.{AllByRecursion, Contains}
use Rattle.sc_clauses.specs.Assignments.{Assignment, value_of, falsifies}
use Rattle.sc_clauses.specs.Clauses.{Clause}
use Rattle.sc_footprint.specs.Definitions.{defining}
use Rattle.sc_footprint.specs.Problems.{Posed, IsPosed, atoms, goal_term}
use Rattle.sc_rule_instances.specs.Instances.{equal_said, set_said, entity_said}
use Rattle.sc_rule_instances.specs.Known.{NoneFalsified}
use Rattle.sc_sorts.specs.declared.node.UnaryOp.TheVariants.{Like}
use Rattle.sc_terms.specs.Trees.{Tree, one}
use Rattle.sc_rule_laws.specs.Signed.{Signed}
use Rattle.sc_rule_laws.specs.Strings.{Pattern, Signs, AreFew, st1, st3}
use Rattle.sc_footprint.specs.Closure.{Closed}
use Rattle.sc_model_laws.specs.Assignments.{some_hold}
use Rattle.sc_model_laws.specs.Consistent.{IsConsistent}
use Rattle.sc_model_values.specs.Models.{truth_in}

abbrev pub IsClosed : Posed → Tree → Type 0
IsClosed p t = Closed p.schema p.env (goal_term p) t

-- each signed term is closed
abbrev pub AreClosed : Posed → List Signed → Type 0
AreClosed p parts = AllByRecursion (λ (s : Signed). IsClosed p s.1) parts

-- the rules of strings hold at closed terms, where they speak of closed terms alone
pub record StringsHold (p : Posed) (m : Assignment) : Type 0 where
  pub st1 : (qs : List Pattern) (a b : Tree) (i : ℕ) (parts : List Signed) → IsClosed p a → IsClosed p b
      → st1 qs a b i ≡ Some parts → AreClosed p parts → some_hold (truth_in p m) parts ≡ true
  pub st3 : (qs : List Pattern) (v : Signs) (ts : List Tree) (parts : List Signed) → AllByRecursion (IsClosed p) ts
      → AreFew qs v (length ts) → st3 qs v ts ≡ Some parts → AreClosed p parts → some_hold (truth_in p m) parts ≡ true

-- each listed atom has a value, and neither a defining clause nor an instance is falsified
pub record FalsifiesNothing (p : Posed) (m : Assignment) : Type 0 where
  pub total : (n : ℕ) → 1 ≤ n → n ≤ length (atoms p) → IsSome (value_of m n)
  pub defined : (c : Clause) → Contains (defining p) c → falsifies m c ≡ false
  pub equal : NoneFalsified equal_said p m
  pub sets : NoneFalsified set_said p m
  pub entities : NoneFalsified entity_said p m
  pub strings : StringsHold p m

abbrev pub TruthsAreConsistent : Type 0
TruthsAreConsistent = (p : Posed) (m : Assignment) → IsPosed p → FalsifiesNothing p m
    → IsConsistent p.schema p.env (goal_term p) (truth_in p m)

-- where no closed term is a pattern's, the rules of strings hold, since there are as many texts as one likes
abbrev pub StringsHoldWithoutPatterns : Type 0
StringsHoldWithoutPatterns = (p : Posed) (m : Assignment) → IsPosed p
    → ((q : Pattern) (t : Tree) → ¬ IsClosed p (one (Like q) t)) → StringsHold p m
